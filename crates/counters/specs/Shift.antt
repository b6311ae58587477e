-- "Memories and counters": the shift, 0 to 79 with one line, 0 to 39 with two; it wraps.
use Rattle.std.specs.Prelude.{ℕ, leb, Bool, not}
use Rattle.counters.specs.Wrap.{wrapped}
use Rattle.counters.specs.declared.LineMode.{LineMode}
use Rattle.counters.specs.declared.LineMode.TheVariants.{One, Two}
use Rattle.counters.specs.declared.shift.Shift.{Shift}

abbrev pub shift : ℕ → Shift
shift n = record { 0 = n }

-- 0 to 79 with one line, 0 to 39 with two
unfoldable pub last_shift : LineMode → ℕ
last_shift One = 79
last_shift Two = 39

unfoldable pub has_shift : LineMode → Shift → Bool
has_shift mode s = leb s.0 (last_shift mode)

-- one move of the display: left adds 1 to the shift, right subtracts 1; it wraps
unfoldable pub move_of : LineMode → (right : Bool) → Shift → Shift
move_of mode right s = shift (wrapped (not right) (last_shift mode) s.0)
