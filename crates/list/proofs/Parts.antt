-- A list cut in two is its parts one after the other.
use Prim.Native.Nat.{ℕ, ◌+◌, ◌*◌, ◌≤◌}
use lib.ListN.{length, drop, length-append}
use lib.Seq.{drop-length, drop-append-add}
use mathlib.Core.List.{List, ◌++◌, append_assoc, append-nil}
use mathlib.Core.Path.{◌≡◌, sym, ap, ◌∙◌}
use native.Mathlib.Omega.{arith}
use Rattle.bus.specs.Events.{after_events, said_by}
use Rattle.controller.specs.declared.Controller.{Controller}
use Rattle.event.specs.declared.Event.{Event}
use Rattle.lent.specs.Buffer.{over}
use Rattle.record.proofs.FrontEvents.{front_append}
use Rattle.record.specs.Record.{most_events, front_events}
use Rattle.run.proofs.Behind.{after_append, answers_append, answers_size}
use Rattle.run.specs.Run.{answer_bytes}
use Rattle.list.specs.List.{room_for, answer_for, left_for, buffer_for}
use Rattle.list.specs.Theorems.{ListInTwo}
use Rattle.list.proofs.Taken.{list_taken, list_done, done_leaves, done_answers}

-- bytes that fill a buffer, and bytes at the front of the one behind it
over_append : (first second out behind : List ℕ) → length first ≡ length out → over (first ++ second) (out ++ behind) ≡ over first out ++ over second behind
unfolding over
over_append first second out behind size = rw (length-append, size, drop-append-add, drop-length, append-nil) (append_assoc first second (drop (length second) behind))

module _ (c : Controller) (first second answers answers' : List ℕ) (done : answer_for c.registers first (length answers) ≡ 0)
    (done' : answer_for (left_for c first (length answers)).registers second (length answers') ≡ 0) where
  abbrev between : Controller
  between = left_for c first (length answers)

  events_append : front_events (first ++ second) ≡ front_events first ++ front_events second
  events_append = front_append first second (list_taken c.registers first (length answers) done).2

  leaves_between : between ≡ after_events (front_events first) c
  leaves_between = done_leaves c first (length answers) done

  whole_done : length (first ++ second) ≤ 3 * most_events → answer_for c.registers (first ++ second) (length (answers ++ answers')) ≡ 0
  whole_done few =
      let taken = list_taken c.registers first (length answers) done in
      let taken' = list_taken between.registers second (length answers') done' in
      let size : length (first ++ second) ≡ length first + length second = length-append first second in
      let room : length (answers ++ answers') ≡ length answers + length answers' = length-append answers answers' in
      let count : length (front_events (first ++ second)) ≡ length (front_events first) + length (front_events second) = ap length events_append ∙ length-append (front_events first) (front_events second) in
      list_done c.registers (first ++ second) (length (answers ++ answers')) taken.0 (omega (arith, taken.1, taken.2, taken'.1, taken'.2)) (omega (arith, taken.2, taken'.2)) (omega (arith, taken.2, taken'.2))

  leaves_in_two : after_events (front_events (first ++ second)) c ≡ left_for between second (length answers')
  leaves_in_two =
      ap (λ (l : List Event). after_events l c) events_append
      ∙ after_append (front_events first) (front_events second) c
      ∙ ap (after_events (front_events second)) (sym leaves_between)
      ∙ sym (done_leaves between second (length answers') done')

  answers_in_two : length answers ≡ room_for first → over (answer_bytes (said_by (front_events (first ++ second)) c)) (answers ++ answers') ≡ buffer_for c first answers ++ buffer_for between second answers'
  answers_in_two full =
      let fills : length (answer_bytes (said_by (front_events first) c)) ≡ length answers = omega (arith, answers_size (front_events first) c, (list_taken c.registers first (length answers) done).2) in
      rw (done_answers c first answers done, done_answers between second answers' done', leaves_between, events_append, answers_append)
      (over_append _ _ answers answers' fills)

pub list_in_two : ListInTwo
list_in_two c first second answers answers' done done' full few =
    let whole = whole_done c first second answers answers' done done' few in (
      whole,
      done_leaves c (first ++ second) (length (answers ++ answers')) whole ∙ leaves_in_two c first second answers answers' done done',
      done_answers c (first ++ second) (answers ++ answers') whole ∙ answers_in_two c first second answers answers' done done' full,
    )
