-- "Halves": on four lines only the upper four lines count; the upper half of a byte comes first.
use Rattle.std.specs.Prelude.{ℕ, ◌+◌, ◌*◌, ◌/◌, ◌%◌, leb, Bool, true, false, cond, ◌&&◌, not}
use Rattle.event.specs.Kind.{is_read, alike}
use Rattle.event.specs.declared.Kind.{Kind}
use Rattle.halves.specs.declared.Half.{Half}
use Rattle.halves.specs.declared.Half.TheVariants.{Nothing, Waiting}
use Rattle.halves.specs.declared.LineCount.{LineCount}
use Rattle.halves.specs.declared.LineCount.TheVariants.{Eight, Four}

abbrev pub upper : ℕ → ℕ
upper n = n / 16 % 16

abbrev pub lower : ℕ → ℕ
lower n = n % 16

-- eight lines if 1, four if 0
abbrev pub line_count : Bool → LineCount
line_count true = Eight
line_count false = Four

-- ---- the half that waits
-- a half waits only on four lines and is 0 to 15, for a read always 0
unfoldable pub is_four : LineCount → Bool
is_four Eight = false
is_four Four = true

abbrev pub most_half : Kind → ℕ
most_half k = cond (is_read k) 0 15

unfoldable pub half_fits : LineCount → Half → Bool
half_fits b Nothing = true
half_fits b (Waiting k u) = is_four b && leb u (most_half k)

-- what waits of a first half: the upper four lines; a number handed in with a read is ignored
abbrev pub held_by : Kind → ℕ → ℕ
held_by k n = cond (is_read k) 0 (upper n)

abbrev pub upper_of : Half → ℕ
upper_of Nothing = 0
upper_of (Waiting k u) = u

-- ---- the transfer that meets it
-- the first half of a byte: four lines, and no half waits
unfoldable pub is_first : LineCount → Half → Bool
is_first b Nothing = is_four b
is_first b (Waiting w u) = false

-- four lines, halves disagree: a second half with another RS or R/W than the first
unfoldable pub disagrees : LineCount → Half → Kind → Bool
disagrees b Nothing k = false
disagrees b (Waiting w u) k = is_four b && not (alike w k)

-- the byte that a transfer completes: on eight lines the number itself, on four the half that waits and the upper four lines
unfoldable pub completed : LineCount → Half → ℕ → ℕ
completed Eight h n = n
completed Four h n = upper_of h * 16 + upper n

-- a read answers with the transfer that completes it: on eight lines the whole value, on four the lower half,
-- in the upper four bits with zeros below
unfoldable pub answered : LineCount → ℕ → ℕ
answered Eight v = v
answered Four v = lower v * 16
