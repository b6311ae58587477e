-- Each form's row is what its callee draws.
use Rattle.drawing.specs.Drawing.{row_in}
use Rattle.drawing.proofs.layout.Layout.draw_row.Goals as goal

pub returns-in-Text : goal.returns-in-Text
unfolding row_in
returns-in-Text c = rw c.in-Text.is c.draw_text.ensures

pub returns-in-Image : goal.returns-in-Image
unfolding row_in
returns-in-Image c = rw c.in-Image.is c.draw_bits.ensures
