-- A turn puts the next eight bits.
use Rattle.std.proofs.Common.{rules}
use Rattle.lent.proofs.Lists.{filled_next}
use Rattle.drawing.proofs.layout.Layout.draw_bits.Goals as goal

pub loop-k-preserved : goal.loop-k-preserved
loop-k-preserved c = filled_next _ _ _ _ _ c.loop-k.invariant (search rules) c.eight.ensures
