-- The loop fills the marked digit's column, a row a turn, from the bytes that still wait there.
use Rattle.std.proofs.Common.{◌≡◌, ◌+◌, ◌*◌, get_or, cond}
use Rattle.dots.specs.Dots.{is_set}
use Rattle.dots.proofs.Columns.{Filling}
use Rattle.dots.proofs.mark.draw_mark.Given as goal

abbrev pub invariant-loop-row : goal.invariant-loop-row
invariant-loop-row l =
    (l.at ≡ l.row * l.size.digits + l.mark.digit) × Filling (λ q. cond (is_set l.mark.cursor l.mark.blink l.size.rows q) 0x1F (get_or l.fn.out (q * l.size.digits + l.mark.digit) 0)) l.size.digits l.mark.digit l.fn.out l.out l.row
