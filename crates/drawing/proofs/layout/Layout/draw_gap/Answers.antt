-- An image takes the row of eighty bytes without a dot.
use Rattle.std.proofs.Common.{◌∙◌}
use Rattle.drawing.specs.Drawing.{gap_in}
use Rattle.drawing.proofs.Rows.{no_dots}
use Rattle.drawing.proofs.layout.Layout.draw_gap.Goals as goal

pub returns-in-Image : goal.returns-in-Image
unfolding gap_in
returns-in-Image c = rw c.in-Image.is (c.draw_bits.ensures ∙ no_dots 80 _)
