-- The loop fills one column, a row a turn.
use Rattle.std.proofs.Common.{◌≡◌, ◌+◌, ◌*◌, ◌%◌}
use Rattle.dots.specs.Dots.{pattern_of}
use Rattle.dots.proofs.Columns.{Filling}
use Rattle.dots.proofs.column.draw_rows.Given as goal

abbrev pub invariant-loop-row : goal.invariant-loop-row
invariant-loop-row l =
    (l.at ≡ l.row * l.size.digits + l.digit) × Filling (λ q. pattern_of l.character l.rom l.size.rows l.code q % 0x20) l.size.digits l.digit l.fn.out l.out l.row
