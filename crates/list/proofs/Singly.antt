-- A list equals its events given singly: the bytes of events hold just those.
use lib.ListN.{length}
use mathlib.Core.List.{List}
use mathlib.Core.Path.{◌≡◌, ap, ◌∙◌}
use native.Mathlib.Omega.{arith}
use Rattle.bus.specs.Events.{after_events, said_by}
use Rattle.condition.proofs.Tests.{is_true}
use Rattle.event.specs.declared.Event.{Event}
use Rattle.lent.specs.Buffer.{over}
use Rattle.record.proofs.Framed.{all_known, body_size, body_front}
use Rattle.record.specs.Record.{body_of, front_events}
use Rattle.run.specs.Run.{answer_bytes}
use Rattle.list.specs.List.{answer_for}
use Rattle.list.specs.Theorems.{ListIsItsEvents}
use Rattle.list.proofs.Taken.{list_done, done_leaves, done_answers}

pub list_is_its_events : ListIsItsEvents
list_is_its_events c events answers ranged fit few room =
    let front : front_events (body_of events) ≡ events = body_front events (all_known events fit) in
    let done : answer_for c.registers (body_of events) (length answers) ≡ 0 =
    list_done c.registers (body_of events) (length answers) (is_true _ ranged) (omega (arith, body_size events)) (omega (arith, body_size events, ap length front)) (omega (arith, ap length front)) in (
      done,
      done_leaves c (body_of events) (length answers) done ∙ ap (λ (l : List Event). after_events l c) front,
      done_answers c (body_of events) answers done ∙ ap (λ (l : List Event). over (answer_bytes (said_by l c)) answers) front,
    )
