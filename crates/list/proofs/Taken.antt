-- What is known of a list that is done, and what a list must be to be done.
use Prim.Native.Nat.{ℕ, ◌*◌, ◌≤◌}
use borrow.Author.Tests.{ltb-false, eqb-true, not-false, le-ltb, eq-eqb}
use lib.Dec.{ltb, eqb}
use lib.ListN.{length}
use lib.Seq.{take_all}
use mathlib.Core.Bool.{true, not}
use mathlib.Core.List.{List}
use mathlib.Core.Path.{◌≡◌, sym, ap, ◌∙◌}
use native.Mathlib.Omega.{arith}
use Rattle.bus.specs.Events.{after_events, said_by}
use Rattle.condition.specs.First.{first_of}
use Rattle.controller.specs.Part.{in_range}
use Rattle.controller.specs.declared.Controller.{Controller}
use Rattle.controller.specs.declared.registers.Registers.{Registers}
use Rattle.event.specs.declared.Event.{Event}
use Rattle.lent.proofs.Left.{done_writes}
use Rattle.lent.specs.Buffer.{over}
use Rattle.record.proofs.FrontEvents.{front_fits, count_events, bad_events_by_front}
use Rattle.record.proofs.Sound.{passed}
use Rattle.record.specs.Record.{most_events, front_events, events_in, bad_events}
use Rattle.run.specs.Promises.{Runnable}
use Rattle.run.specs.Run.{RunsEvents, answer_bytes}
use Rattle.list.specs.List.{room_for, answer_for, left_for, buffer_for, Listing}

module _ (r : Registers) (events : List ℕ) (room : ℕ) where
  -- the controller in range, room for the answers, and events that are all there is
  pub list_taken : answer_for r events room ≡ 0 → (in_range r ≡ true) × (room_for events ≤ room) × (length (front_events events) * 3 ≡ length events) × (events_in events ≡ front_events events)
  unfolding answer_for first_of events_in
  list_taken e =
      let ranged = passed (not (in_range r)) _ _ (λ z. omega arith) e in
      let roomy = passed (ltb room (room_for events)) _ _ (λ z. omega arith) ranged.1 in
      let good = passed (bad_events events) _ _ (λ z. omega arith) roomy.1 in
      let whole : length (events_in events) * 3 ≡ length events = eqb-true _ _ (not-false (eqb (length (events_in events) * 3) (length events)) (sym (bad_events_by_front events) ∙ good.0)) in (
        not-false _ ranged.0,
        ltb-false _ _ roomy.0,
        omega (arith, whole, count_events events, front_fits events),
        take_all most_events (front_events events) (omega (arith, whole, count_events events, front_fits events)),
      )

  pub list_done : in_range r ≡ true → room_for events ≤ room → length (front_events events) * 3 ≡ length events → length (front_events events) ≤ most_events → answer_for r events room ≡ 0
  unfolding answer_for first_of
  list_done ranged roomy whole few =
      let all : length (events_in events) * 3 ≡ length events = omega (arith, count_events events) in
      simp (ranged, le-ltb _ _ roomy, bad_events_by_front, eq-eqb _ _ all)

pub list_runnable : (c : Controller) (events answers : List ℕ) → answer_for c.registers events (length answers) ≡ 0 → Runnable c events answers
list_runnable c events answers e =
    let taken = list_taken c.registers events (length answers) e in
    record { ranged = taken.0; whole = taken.2; room = omega (arith, taken.1, taken.2) }

-- ---- what a list that is done leaves

module _ (c : Controller) (events : List ℕ) where
  pub done_leaves : (room : ℕ) → answer_for c.registers events room ≡ 0 → left_for c events room ≡ after_events (front_events events) c
  unfolding left_for
  done_leaves room done = rw (eq-eqb _ _ done, (list_taken c.registers events room done).3)

  pub done_answers : (answers : List ℕ) → answer_for c.registers events (length answers) ≡ 0 → buffer_for c events answers ≡ over (answer_bytes (said_by (front_events events) c)) answers
  unfolding buffer_for
  done_answers answers done =
      sym (done_writes _ _ answers done) ∙ ap (λ (l : List Event). over (answer_bytes (said_by l c)) answers) (list_taken c.registers events (length answers) done).3

pub list_ran : (c : Controller) (events answers : List ℕ) → 0 ≡ answer_for c.registers events (length answers) → (left : Controller) (out : List ℕ) → RunsEvents c events answers left out → Listing c events answers 0 left out
list_ran c events answers done left out ran =
    record {
      number = done;
      controller = ran.controller ∙ sym (done_leaves c events (length answers) (sym done));
      buffer = ran.buffer ∙ sym (done_answers c events answers (sym done));
    }
