-- Laws of the calls on the board: of bytes that hold no controller, of a call that was refused, and of one that is done.
use Prim.Native.Nat.{ℕ}
use Rattle.std.specs.Option.{ok_or}
use Rattle.std.specs.Prelude.{⊤, Result, Ok, Err}
use mathlib.Core.List.{List}
use mathlib.Core.Path.{◌≡◌, refl, sym, ap, ◌∙◌}
use Rattle.bus.specs.Transfer.{told}
use Rattle.bus.specs.declared.Outcome.{Outcome}
use Rattle.condition.proofs.Tests.{is_true}
use Rattle.controller.specs.Answers.{said_of}
use Rattle.controller.specs.Part.{in_range}
use Rattle.controller.specs.Told.{Told}
use Rattle.controller.specs.declared.Controller.{Controller}
use Rattle.list.proofs.Refused.{refused_list_leaves}
use Rattle.list.specs.List.{Listing}
use Rattle.refusal.proofs.Settled.{none_is_done}
use Rattle.refusal.specs.Refusals.{number, number_of}
use Rattle.refusal.specs.declared.Refusal.{Refusal}
use Rattle.refusal.specs.declared.Refusal.TheVariants.{NotInRange}
use Rattle.restart.specs.Writes.{restart_of}
use Rattle.state.proofs.Lengths.{taken_put, taken_in_range}
use Rattle.state.specs.State.{put_of}
use Rattle.state.specs.Taken.{taken_of}
use Rattle.trestlecap.specs.Called.{number_on, state_on, buffer_on, zeros, RunningList, Restarting}
use Rattle.trestlecap.proofs.Held.{held, none_held}
use Rattle.trestlecap.proofs.Refused.{refused_restart}

module _ (state events answers : List ℕ) where
  pub list_none : (refusal : Refusal) → Err refusal ≡ ok_or (taken_of state) NotInRange → RunningList state events answers (number refusal) state answers
  unfolding number_on state_on buffer_on
  list_none refusal e = let none = none_held state refusal e in record { number = rw none.0 none.1; kept = rw none.0 refl; buffer = rw none.0 refl }

  module _ (c : Controller) (taken : Ok c ≡ ok_or (taken_of state) NotInRange) (left : Controller) (out : List ℕ) where
    pub list_refused : (refusal : Refusal) → Listing c events answers (number refusal) left out → RunningList state events answers (number refusal) state out
    unfolding number_on state_on buffer_on
    list_refused refusal p =
        let there = held state c taken in
        let kept = (refused_list_leaves c events answers (λ z. none_is_done refusal (p.number ∙ z))).0 in
        record { number = rw there p.number; kept = rw there (taken_put state c there ∙ ap put_of (sym kept)); buffer = rw there p.buffer }

    pub list_done : Listing c events answers 0 left out → (r : Result ⊤ Refusal) (after : List ℕ) → (number_of r ≡ 0) × (after ≡ put_of left)
        → RunningList state events answers (number_of r) after out
    unfolding number_on state_on buffer_on
    list_done p r after back =
        let there = held state c taken in
        record { number = back.0 ∙ rw there p.number; kept = back.1 ∙ rw there (ap put_of p.controller); buffer = rw there p.buffer }

module _ (state : List ℕ) where
  pub restart_none : (refusal : Refusal) → Err refusal ≡ ok_or (taken_of state) NotInRange → Restarting state (number refusal) state
  unfolding number_on state_on
  restart_none refusal e = let none = none_held state refusal e in record { number = rw none.0 none.1; kept = rw none.0 refl }

  module _ (c : Controller) (taken : Ok c ≡ ok_or (taken_of state) NotInRange) (o : Outcome) (p : told o ≡ restart_of c zeros) where
    pub restart_refused : (refusal : Refusal) → o.answer ≡ Err refusal → Restarting state (number refusal) state
    unfolding number_on state_on
    restart_refused refusal e =
        let there = held state c taken in
        let same : number refusal ≡ (restart_of c zeros).said.number = ap (λ a. (said_of a).number) (sym e) ∙ ap (λ (t : Told). t.said.number) p in
        let kept = refused_restart zeros c (λ z. none_is_done refusal (same ∙ z)) in
        record { number = rw there same; kept = rw there (taken_put state c there ∙ ap put_of (sym kept)) }

    -- a controller that was taken is in range, so its restart is done
    done : (restart_of c zeros).said.number ≡ 0
    unfolding restart_of
    done = rw (is_true (in_range c.registers) (taken_in_range state c (held state c taken))) refl

    pub restart_done : (r : Result ⊤ Refusal) (after : List ℕ) → (number_of r ≡ 0) × (after ≡ put_of o.controller) → Restarting state (number_of r) after
    unfolding number_on state_on
    restart_done r after back =
        let there = held state c taken in
        record { number = back.0 ∙ rw there (sym done); kept = back.1 ∙ rw there (ap (λ (t : Told). put_of t.controller) p) }
