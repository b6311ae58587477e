-- Before the first line none is there; a turn puts one behind those already there.
use Rattle.std.proofs.Common.{◌≡◌, ◌∙◌, ◌*◌, ℕ, ap, sym, refl, arith, length}
use Rattle.dots.specs.Dots.{line_of}
use Rattle.lent.proofs.Lists.{length_parts, length_values, taken_start, taken_next}
use Rattle.picture.proofs.whole.draw_lines.Goals as goal

pub loop-line-init : goal.loop-line-init
loop-line-init c = taken_start _ _ _

pub loop-line-preserved : goal.loop-line-preserved
unfolding line_of
loop-line-preserved c =
    let rows = ap (λ (n : ℕ). n * c.args.drawable.digits) c.row_count.ensures.0 in
    let line_long : (line : ℕ) → length (line_of c.args.drawable.controller c.args.drawable.digits c.args.rom.now c.args.drawable.phase line) ≡ c.row_count.result * c.args.drawable.digits = λ line. length_parts _ _ _ (λ row. length_values _ _) ∙ sym rows in
    taken_next _ _ _ _ _ _ _ _ c.loop-line.invariant line_long c.draw_line.ensures refl (omega arith)
