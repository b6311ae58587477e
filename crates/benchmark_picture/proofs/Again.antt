-- A picture that is drawn over itself is the same picture, with the same answer.
use Prim.Native.Nat.{ℕ}
use Rattle.std.specs.Prelude.{⊤, Result}
use lib.Dec.{eqb}
use lib.ListN.{length}
use lib.Seq.{drop-append_seam}
use mathlib.Core.Bool.{Bool, true, false, cond}
use mathlib.Core.List.{List}
use mathlib.Core.Path.{◌≡◌, refl, sym, ap, ◌∙◌}
use Rattle.controller.specs.declared.Controller.{Controller}
use Rattle.dots.specs.declared.phase.Phase.{Phase}
use Rattle.lent.specs.Buffer.{over, unless_refused}
use Rattle.picture.specs.Answers.{answer_for, buffer_for, Pictured}
use Rattle.picture.specs.Picture.{picture_of}
use Rattle.refusal.specs.Refusals.{number_of}
use Rattle.refusal.specs.declared.Refusal.{Refusal}

-- by the test that the number is 0
by_test : (b : Bool) (new out : List ℕ) → cond b (over new (cond b (over new out) out)) (cond b (over new out) out) ≡ cond b (over new out) out
unfolding over
by_test true new out = rw (drop-append_seam new _)
by_test false new out = refl

written_again : (number : ℕ) (new out : List ℕ) → unless_refused number new (unless_refused number new out) ≡ unless_refused number new out
unfolding unless_refused
written_again number new out = by_test (eqb number 0) new out

module _ (c : Controller) (digits : ℕ) (rom : List ℕ) (phase : Phase) (out once : List ℕ) (first : Result ⊤ Refusal) (p : Pictured c digits rom phase out first once)
    (e : length once ≡ length out) (twice : List ℕ) (second : Result ⊤ Refusal) (q : Pictured c digits rom phase once second twice) where
  pub answered_again : number_of second ≡ number_of first
  answered_again = q.number ∙ ap (answer_for c digits (length rom)) e ∙ sym p.number

  pub drawn_again : twice ≡ once
  unfolding buffer_for
  drawn_again =
      rw (e, p.buffer) at q.buffer
      ∙ written_again (answer_for c digits (length rom) (length out)) (picture_of c digits rom phase) out
      ∙ sym p.buffer
