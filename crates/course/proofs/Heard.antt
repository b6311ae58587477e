-- What is heard of a request that is made to a part: the line, and the events at the front of the buffer.
use Prim.Native.Nat.{ℕ}
use Rattle.std.specs.Prelude.{Option, Result, Ok, Err}
use borrow.Author.Tests.{ne_eqb}
use lib.Dec.{eqb}
use lib.ListN.{length}
use mathlib.Core.Bool.{Bool, true, false, cond}
use mathlib.Core.List.{List, []}
use mathlib.Core.Path.{◌≡◌, refl, ap, subst, subst⁻¹, ◌∙◌}
use native.Mathlib.Omega.{arith}
use Rattle.bedside.specs.Log.{figure_of, look_up_figure, LookingUp}
use Rattle.bedside.specs.Refusals.{call_answer}
use Rattle.calls.specs.Events.{call_events}
use Rattle.calls.specs.Promises.{PutsEvents}
use Rattle.calls.specs.declared.Call.{Call}
use Rattle.controller.specs.declared.Controller.{Controller}
use Rattle.lent.proofs.Front.{front_written}
use Rattle.lent.proofs.Left.{at_front}
use Rattle.record.specs.Record.{body_of}
use Rattle.refusal.proofs.Settled.{none_is_done}
use Rattle.refusal.specs.Refusals.{number}
use Rattle.refusal.specs.declared.Refusal.{Refusal}
use Rattle.text.specs.Text.{refused_of}
use Rattle.course.specs.Course.{answer_to, events_on, added_by, figure_line, done_line, call_line}
use Rattle.course.specs.Promises.{said_line, Heard}
use Rattle.course.specs.declared.request.Request.{Request}
use Rattle.course.specs.declared.request.Request.TheVariants.{Make, LookUp}
use Rattle.course.specs.declared.verdict.Said.{Said}
use Rattle.course.specs.declared.verdict.Said.TheVariants.{Refused, Done}

-- ---- a night that is looked up

module _ (c : Controller) (night : ℕ) {r : Result (Option ℕ) Refusal} (p : LookingUp c night r) where
  pub figure_said : (figure : Option ℕ) → r ≡ Ok figure → figure_line figure ≡ call_line c (LookUp night) []
  unfolding call_line answer_to done_line look_up_figure
  figure_said figure e =
      let q = subst (LookingUp c night) e p in
      let same : figure ≡ figure_of c night = rw (← q.number) at q.value in
      rw (← q.number) (ap figure_line same)

  pub refused_said : (refusal : Refusal) → r ≡ Err refusal → refused_of (number refusal) ≡ call_line c (LookUp night) []
  unfolding call_line answer_to
  refused_said refusal e =
      let q = subst (LookingUp c night) e p in
      rw (← q.number, ne_eqb (number refusal) 0 (none_is_done refusal)) refl

-- ---- a call, by its answer

module _ (c : Controller) (call : Call) (characters : List ℕ) where
  pub refused_heard : (refusal : Refusal) → number refusal ≡ call_answer c call (length characters) → (left : List ℕ) → Heard c (Make call) characters (Refused refusal, 0) left
  unfolding call_line added_by answer_to body_of
  refused_heard refusal told left =
      let refused : eqb (call_answer c call (length characters)) 0 ≡ false = ne_eqb _ _ (λ z. none_is_done refusal (told ∙ z)) in
      record { line = rw refused (ap refused_of told); fits = omega arith; events = rw refused refl }

  pub done_heard : 0 ≡ call_answer c call (length characters) → (out : List ℕ) (size : ℕ) (left : List ℕ) → PutsEvents (call_events c.registers.bus call characters) 0 out size left
      → Heard c (Make call) characters (Done, size) left
  unfolding call_line done_line added_by events_on answer_to
  done_heard told out size left p =
      let written = front_written 0 _ out left refl size p.puts in
      let there = at_front 0 size _ out left written.1 refl written.0 in
      record { line = rw (← told) refl; fits = there.0; events = rw (← told) there.1 }

-- ---- which request it is

none_either : (b : Bool) → [] ≡ body_of (cond b [] [])
unfolding body_of
none_either true = refl
none_either false = refl

module _ (c : Controller) (characters : List ℕ) {request : Request} where
  pub look_heard : {night : ℕ} {said : Said} (left : List ℕ) → request ≡ LookUp night → said_line said ≡ call_line c (LookUp night) []
      → Heard c request characters (said, 0) left
  unfolding added_by events_on call_line answer_to
  look_heard {night} {said} left e l =
      subst⁻¹ (λ (x : Request). Heard c x characters (said, 0) left) e
      record { line = l; fits = omega arith; events = none_either (eqb (answer_to c (LookUp night) characters) 0) }
