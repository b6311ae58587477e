-- A turn puts the next mark.
use Rattle.std.proofs.Common.{arith, rules}
use Rattle.lent.proofs.Lists.{filled_next}
use Rattle.drawing.proofs.layout.Layout.draw_text.Goals as goal

pub loop-x-preserved : goal.loop-x-preserved
loop-x-preserved c = (omega arith, filled_next _ _ _ _ _ c.loop-x.invariant.1 (search rules) c.mark.ensures)
