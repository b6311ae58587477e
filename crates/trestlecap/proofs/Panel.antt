-- Laws of the panel's calls from C: what is put back, and what stands behind the pointers.
use Prim.Native.Nat.{ℕ}
use Rattle.std.specs.Option.{ok_or, is_some, unwrap_or}
use Rattle.std.specs.Prelude.{⊤, Bool, Option, None, Some, Result, Ok, Err}
use borrow.Author.Tests.{eq-eqb, ne_eqb}
use lib.ListN.{length}
use mathlib.Core.List.{List}
use mathlib.Core.Path.{◌≡◌, refl, sym, ap, ◌∙◌}
use Rattle.bedside.specs.Log.{look_up_answer, look_up_figure, LookingUp as Looking}
use Rattle.bedside.specs.Panel.{Calling}
use Rattle.bedside.specs.Refusals.{call_answer}
use Rattle.bedside.specs.declared.Outcome.{Outcome}
use Rattle.calls.specs.declared.Call.{Call}
use Rattle.condition.specs.Flag.{flag_number}
use Rattle.controller.specs.declared.Controller.{Controller}
use Rattle.refusal.proofs.Settled.{none_is_done}
use Rattle.refusal.specs.Refusals.{number, number_of}
use Rattle.refusal.specs.declared.Refusal.{Refusal}
use Rattle.refusal.specs.declared.Refusal.TheVariants.{NotInRange}
use Rattle.state.proofs.Lengths.{taken_put}
use Rattle.state.specs.State.{put_of}
use Rattle.state.specs.Taken.{taken_of}
use Rattle.trestlecap.specs.Called.{number_on, state_on, written_of, quarters_of, MakingCall, LookingUp}
use Rattle.trestlecap.proofs.Held.{held, none_held}
use Rattle.trestlecap.proofs.Refused.{refused_call}

module _ (state : List ℕ) (call : Call) (characters : List ℕ) (wrap : ℕ) where
  pub call_none : (refusal : Refusal) → Err refusal ≡ ok_or (taken_of state) NotInRange → MakingCall state call characters wrap (number refusal) state wrap
  unfolding number_on state_on
  call_none refusal e = let none = none_held state refusal e in record { number = rw none.0 none.1; kept = rw none.0 refl; said = rw none.0 refl }

  module _ (c : Controller) (taken : Ok c ≡ ok_or (taken_of state) NotInRange) (o : Outcome) (p : Calling c call characters o) where
    pub call_refused : (refusal : Refusal) → o.answer ≡ Err refusal → MakingCall state call characters wrap (number refusal) state wrap
    unfolding number_on state_on
    call_refused refusal e =
        let there = held state c taken in
        let same : number refusal ≡ call_answer c call (length characters) = ap number_of (sym e) ∙ p.number in
        let refused = λ (z : call_answer c call (length characters) ≡ 0). none_is_done refusal (same ∙ z) in
        record {
          number = rw there same;
          kept = rw there (taken_put state c there ∙ ap put_of (sym (refused_call call characters c refused)));
          said = rw (there, ne_eqb (call_answer c call (length characters)) 0 refused) refl;
        }

    pub call_done : (x : ⊤) → o.answer ≡ Ok x → (r : Result ⊤ Refusal) (after : List ℕ) → (number_of r ≡ 0) × (after ≡ put_of o.controller)
        → MakingCall state call characters wrap (number_of r) after (flag_number o.wrap)
    unfolding number_on state_on
    call_done x e r after back =
        let there = held state c taken in
        let zero : 0 ≡ call_answer c call (length characters) = ap number_of (sym e) ∙ p.number in
        record {
          number = back.0 ∙ rw there zero;
          kept = back.1 ∙ rw there (ap put_of p.controller);
          said = rw (there, eq-eqb (call_answer c call (length characters)) 0 (sym zero)) (ap flag_number p.wrap);
        }

-- the figure's own test and value
as_written : (figure : Option ℕ) → flag_number (is_some figure) ≡ written_of figure
as_written None = refl
as_written (Some figure) = refl

as_quarters : (figure : Option ℕ) → unwrap_or figure 0 ≡ quarters_of figure
as_quarters None = refl
as_quarters (Some figure) = refl

module _ (state : List ℕ) (night written quarters : ℕ) where
  pub look_none : (refusal : Refusal) → Err refusal ≡ ok_or (taken_of state) NotInRange → LookingUp state night written quarters (number refusal) written quarters
  unfolding number_on
  look_none refusal e = let none = none_held state refusal e in record { number = rw none.0 none.1; first = rw none.0 refl; second = rw none.0 refl }

  module _ (c : Controller) (taken : Ok c ≡ ok_or (taken_of state) NotInRange) where
    pub look_refused : (refusal : Refusal) → Looking c night (Err refusal) → LookingUp state night written quarters (number refusal) written quarters
    unfolding number_on
    look_refused refusal p =
        let there = held state c taken in
        let refused = ne_eqb (look_up_answer c night) 0 (λ z. none_is_done refusal (p.number ∙ z)) in
        record { number = rw there p.number; first = rw (there, refused) refl; second = rw (there, refused) refl }

    pub look_found : (figure : Option ℕ) → Looking c night (Ok figure) → (some : Bool) (n : ℕ) → some ≡ is_some figure → n ≡ unwrap_or figure 0 → LookingUp state night written quarters 0 (flag_number some) n
    unfolding number_on look_up_figure
    look_found figure p some n e f =
        let there = held state c taken in
        let done = eq-eqb (look_up_answer c night) 0 (sym p.number) in
        let same = rw done at p.value in
        record {
          number = rw there p.number;
          first = rw (there, done) (ap flag_number e ∙ as_written figure ∙ ap written_of same);
          second = rw (there, done) (f ∙ as_quarters figure ∙ ap quarters_of same);
        }
