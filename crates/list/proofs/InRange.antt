-- A list keeps a controller in range, so no event of it is answered 16.
use lib.Dec.{T, eqb, T_not}
use mathlib.Core.List.{[], ◌∷◌}
use mathlib.Core.Logic.{◌≢◌}
use Rattle.bus.proofs.Numbers.{transfer_given_exactly, wait_given_exactly}
use Rattle.bus.proofs.Range.{range_kept, events_kept}
use Rattle.bus.specs.Events.{told_by, said_by}
use Rattle.condition.proofs.Tests.{split}
use Rattle.condition.specs.First.{ExactlyFrom}
use Rattle.controller.specs.Part.{in_range}
use Rattle.controller.specs.declared.Controller.{Controller}
use Rattle.event.specs.declared.Event.{Event}
use Rattle.event.specs.declared.Event.TheVariants.{Transfer, Wait}
use Rattle.record.specs.Record.{events_in}
use Rattle.list.specs.List.{answer_for, left_for}
use Rattle.list.specs.Theorems.{ListKeepsRange, NoEventNotInRange}

pub list_keeps_range : ListKeepsRange
unfolding left_for
list_keeps_range c events room ranged =
    split (λ (left : Controller). T (in_range left.registers)) (eqb (answer_for c.registers events room) 0) (λ done. events_kept (events_in events) c ranged) (λ refused. ranged)

not_sixteen : (event : Event) (c : Controller) → T (in_range c.registers) → (told_by event c).said.number ≢ 16
unfolding told_by ExactlyFrom
not_sixteen (Transfer kind byte) c ranged e = T_not (in_range c.registers) ((transfer_given_exactly c kind byte).0.0 e) ranged
not_sixteen (Wait ticks) c ranged e = T_not (in_range c.registers) ((wait_given_exactly c ticks).0.0 e) ranged

pub no_event_not_in_range : NoEventNotInRange
unfolding said_by
no_event_not_in_range c [] ranged = tt
no_event_not_in_range c (event ∷ events) ranged = (not_sixteen event c ranged, no_event_not_in_range (told_by event c).controller events (range_kept event c ranged))
