-- A turn writes the next byte of the column, from the one that still waits there.
use Rattle.std.proofs.Common.{arith}
use Rattle.std.proofs.Math.Nat.{le_refl}
use Rattle.dots.proofs.Columns.{column_next}
use Rattle.dots.proofs.mark.draw_mark.Goals as goal

pub loop-row-preserved : goal.loop-row-preserved
loop-row-preserved c =
    let placed = c.loop-row.invariant.0 in
    let column = c.loop-row.invariant.1 in
    (omega (arith, placed), rw placed (column_next _ _ _ _ _ _ _ column c.loop-row-test.true c.requires.0 c.requires.1 _ (rw (c.lit.ensures, c.sets.ensures, placed, column.waiting _ (le_refl _)))))
