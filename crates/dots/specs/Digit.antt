-- "The picture": the cell that a digit shows.
use Rattle.std.specs.Prelude.{ℕ, ◌+◌, ◌*◌, ◌%◌}
use Rattle.counters.specs.Address.{cell}
use Rattle.counters.specs.declared.LineMode.{LineMode}
use Rattle.counters.specs.declared.LineMode.TheVariants.{One, Two}
use Rattle.counters.specs.declared.address.Cell.{Cell}
use Rattle.counters.specs.declared.shift.Shift.{Shift}

-- digit d (from 0) shows cell (d + shift) mod 80 with one line, and on line m cell 40m + (d + shift) mod 40 with two
unfoldable pub shown_on : LineMode → Shift → (m d : ℕ) → Cell
shown_on One s m d = cell ((d + s.0) % 80)
shown_on Two s m d = cell (40 * m + (d + s.0) % 40)
