-- An image's three parts are put one behind the other.
use Rattle.std.proofs.Common.{sym, arith}
use Rattle.lent.proofs.Placed.{puts_then}
use Rattle.drawing.specs.Drawing.{head_of}
use Rattle.drawing.proofs.layout.Layout.put_head.Goals as goal

pub returns-in-Image : goal.returns-in-Image
unfolding head_of
returns-in-Image c =
    rw (c.in-Image.is, sym c.width.ensures.0, sym c.height.ensures.0)
    (puts_then _ _ _ _ _ _ _ _ (omega arith) (puts_then _ _ _ _ _ _ _ _ (omega arith) c.put_text-next.ensures c.put_number-next.ensures) c.put_number.ensures)
