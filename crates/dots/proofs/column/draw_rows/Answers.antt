-- A turn writes the next byte of the column.
use Rattle.std.proofs.Common.{◌%◌, ℕ, ap, arith}
use Rattle.dots.proofs.Columns.{column_next}
use Rattle.dots.proofs.column.draw_rows.Goals as goal

pub loop-row-preserved : goal.loop-row-preserved
loop-row-preserved c =
    (omega (arith, c.loop-row.invariant.0), rw c.loop-row.invariant.0 (column_next _ _ _ _ _ _ _ c.loop-row.invariant.1 c.loop-row-test.true c.requires.0 c.requires.1 _ (ap (λ (p : ℕ). p % 0x20) c.pattern.ensures)))
