-- The loop fills the buffer with marks, a column a turn, and leaves room for the line end.
use Rattle.std.proofs.Common.{◌/◌, ◌%◌, ◌≤◌, get_or}
use Rattle.lent.proofs.Lists.{Filled}
use Rattle.drawing.specs.Row.{mark_of}
use Rattle.drawing.proofs.layout.Layout.draw_text.Given as goal

abbrev pub invariant-loop-x : goal.invariant-loop-x
invariant-loop-x l = (l.x ≤ l.width) × (Filled (λ n. mark_of (get_or l.dots (n / 6) 0) (n % 6)) l.fn.out l.out l.x)
