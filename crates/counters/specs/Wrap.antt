-- "Memories and counters": one step of a number that runs from 00 to a last one and wraps.
use Rattle.std.specs.Prelude.{ℕ, ◌+◌, ◌-◌, leb, eqb, Bool, true, false, cond}

-- one step up goes from the last number to 00
unfoldable pub next : (last n : ℕ) → ℕ
next last n = cond (leb last n) 0x00 (n + 1)

-- a step down is the reverse (ours)
unfoldable pub previous : (last n : ℕ) → ℕ
previous last n = cond (eqb n 0x00) last (n - 1)

abbrev pub wrapped : (up : Bool) (last n : ℕ) → ℕ
wrapped true last n = next last n
wrapped false last n = previous last n
