-- Before the first row none is there; a turn puts the next one behind those that are.
use Rattle.std.proofs.Common.{refl, sym, ◌≡◌, ◌+◌, ◌*◌, ◌∙◌, add-one, arith, rules}
use Rattle.std.proofs.Math.Nat.{zero-mul, suc-mul}
use Rattle.lent.proofs.Lists.{taken_next}
use Rattle.lent.specs.Lists.{parts}
use Rattle.drawing.proofs.Lengths.{length_row, row_from}
use Rattle.drawing.proofs.layout.Layout.draw_line.Goals as goal

pub loop-row-init : goal.loop-row-init
unfolding parts
loop-row-init c = (refl, refl, rw zero-mul refl)

pub loop-row-preserved : goal.loop-row-preserved
loop-row-preserved c =
    let i = c.loop-row in
    let size = c.row_size-size.result in
    let next : (i.row + 1) * size ≡ i.row * size + size = omega (arith, suc-mul i.row size, add-one i.row) in
    let taken = taken_next _ _ c.args.out.now i.out _ _ i.row _ i.invariant (λ q. length_row _ _ _ c.args.self.some ∙ sym c.row_size-size.ensures.0) (c.draw_row.ensures ∙ row_from _ _ _ (0 * _ + _) c.args.dots.now (omega arith)) refl (search rules) in
    (refl, taken.1, rw next taken.2)
