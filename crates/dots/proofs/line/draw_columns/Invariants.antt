-- The loop adds a column a turn: the one of the cell that the digit shows.
use Rattle.std.proofs.Common.{◌%◌, get_or}
use Rattle.dots.specs.Digit.{shown_on}
use Rattle.dots.specs.Dots.{pattern_of}
use Rattle.dots.proofs.Columns.{Columns}
use Rattle.dots.proofs.line.draw_columns.Given as goal

abbrev pub invariant-loop-digit : goal.invariant-loop-digit
invariant-loop-digit l =
    Columns (λ d row. pattern_of l.character l.rom l.place.size.rows (get_or l.display (shown_on l.place.lines l.place.shift l.place.line d).0 0) row % 0x20) l.place.size.rows l.place.size.digits l.fn.out l.out l.digit
