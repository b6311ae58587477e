-- The loop puts a row a turn behind those already there.
use Rattle.std.proofs.Common.{◌+◌, ◌*◌, get_or}
use Rattle.lent.proofs.Lists.{Taken}
use Rattle.size.specs.Size.{rows_of}
use Rattle.drawing.specs.Drawing.{row_in}
use Rattle.drawing.proofs.layout.Layout.draw_line.Given as goal

abbrev pub invariant-loop-row : goal.invariant-loop-row
invariant-loop-row l =
    Taken (λ q. row_in l.self.form l.self.digits (λ digit. get_or l.dots (0 * (rows_of l.self.mode * l.self.digits) + q * l.self.digits + digit) 0)) l.size l.fn.out l.out l.row (l.row * l.size)
