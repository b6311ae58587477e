-- Each return's tests decide the list of refusals; the last draws over the front of the buffer.
use Rattle.std.proofs.Common.{refl, sym, ◌∙◌}
use Rattle.std.proofs.Math.Seq.{length-take-le}
use borrow.Author.Tests.{lt-ltb, le-ltb}
use Rattle.condition.specs.First.{first_of}
use Rattle.size.proofs.Sizes.{digits_counted}
use Rattle.drawing.specs.Answers.{refusals, answer_for}
use Rattle.drawing.proofs.Lengths.{length_drawing}
use Rattle.drawing.proofs.Promise.{refused, drawn}
use Rattle.drawing.proofs.draw.Goals as goal

pub returns-then-not-has_digits : goal.returns-then-not-has_digits
unfolding answer_for refusals first_of
returns-then-not-has_digits c =
    refused _ _ _ _ _ _ (simp (sym c.if-not-has_digits.ensures)) refl

pub returns-then-dots-byte_count : goal.returns-then-dots-byte_count
unfolding answer_for refusals first_of
returns-then-dots-byte_count c =
    refused _ _ _ _ _ _ (simp (sym c.if-not-has_digits.ensures, sym c.byte_count.ensures, lt-ltb _ _ c.if-dots-byte_count.true)) refl

pub returns-then-out-size : goal.returns-then-out-size
unfolding answer_for refusals first_of
returns-then-out-size c =
    let counted = digits_counted _ _ (sym c.if-not-has_digits.ensures) in
    let size = c.byte_size-size.ensures ∙ sym (length_drawing c.args.form c.args.mode c.args.digits c.args.dots.now counted.0) in
    refused _ _ _ _ _ _ (simp (sym c.if-not-has_digits.ensures, sym c.byte_count.ensures, le-ltb _ _ c.if-dots-byte_count.false, sym size, lt-ltb _ _ c.if-out-size.true)) refl

pub draw_whole-requires : goal.draw_whole-requires
draw_whole-requires c = (rw c.byte_count.ensures at c.if-dots-byte_count.false, length-take-le _ _ c.if-out-size.false ∙ c.byte_size-size.ensures)

pub returns : goal.returns
unfolding answer_for refusals first_of
returns c =
    let counted = digits_counted _ _ (sym c.if-not-has_digits.ensures) in
    let size = c.byte_size-size.ensures ∙ sym (length_drawing c.args.form c.args.mode c.args.digits c.args.dots.now counted.0) in
    drawn _ _ _ _ _ _ _ _
    (simp (sym c.if-not-has_digits.ensures, sym c.byte_count.ensures, le-ltb _ _ c.if-dots-byte_count.false, sym size, le-ltb _ _ c.if-out-size.false))
    size
    c.draw_whole.ensures
    refl
