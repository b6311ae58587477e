-- Each return's tests decide the list of refusals; the last draws over the front of the buffer.
use Rattle.std.proofs.Common.{refl, sym}
use borrow.Author.Tests.{lt-ltb, le-ltb, eq-eqb, ne_eqb}
use Rattle.condition.specs.First.{first_of}
use Rattle.picture.specs.Answers.{refusals, answer_for}
use Rattle.picture.proofs.Promise.{refused, drawn}
use Rattle.picture.proofs.picture.Goals as goal

pub returns-then-not-in_range : goal.returns-then-not-in_range
unfolding answer_for refusals first_of
returns-then-not-in_range c = refused _ _ _ _ _ _ (simp (sym c.if-not-in_range.ensures)) refl

pub returns-then-not-has_digits : goal.returns-then-not-has_digits
unfolding answer_for refusals first_of
returns-then-not-has_digits c =
    refused _ _ _ _ _ _ (simp (sym c.if-not-in_range.ensures, sym c.if-not-has_digits.ensures)) refl

pub returns-in_default : goal.returns-in_default
unfolding answer_for refusals first_of
returns-in_default c =
    refused _ _ _ _ _ _ (simp (sym c.if-not-in_range.ensures, sym c.if-not-has_digits.ensures, ne_eqb _ _ c.in_default.ensures.cases)) refl

pub returns-then-out-bytes : goal.returns-then-out-bytes
unfolding answer_for refusals first_of
returns-then-out-bytes c =
    refused _ _ _ _ _ _ (simp (sym c.if-not-in_range.ensures, sym c.if-not-has_digits.ensures, eq-eqb _ _ c.in-Some.ensures.cases.long, lt-ltb _ _ c.if-out-bytes.true, sym c.byte_count-bytes.ensures)) refl

pub returns : goal.returns
unfolding answer_for refusals first_of
returns c =
    drawn _ _ _ _ _ _ _ _
    (simp (sym c.if-not-in_range.ensures, sym c.if-not-has_digits.ensures, eq-eqb _ _ c.in-Some.ensures.cases.long, le-ltb _ _ c.if-out-bytes.false, sym c.byte_count-bytes.ensures))
    c.byte_count-bytes.ensures
    (rw c.in-Some.ensures.cases.same at c.draw.ensures)
    refl
