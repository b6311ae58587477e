-- What is proved of lists beside the promises.
use Rattle.std.specs.Prelude.{⊤, ℕ, ◌*◌, ◌≤◌, T, length, List, [], ◌∷◌, ◌++◌, Result, ◌≢◌, ◌≡◌}
use Rattle.bus.specs.Events.{after_events, said_by}
use Rattle.condition.specs.First.{Exactly}
use Rattle.controller.specs.Answers.{Said}
use Rattle.controller.specs.Part.{in_range}
use Rattle.controller.specs.declared.Controller.{Controller}
use Rattle.controller.specs.declared.registers.Registers.{Registers}
use Rattle.event.specs.declared.Event.{Event}
use Rattle.lent.specs.Buffer.{over}
use Rattle.record.specs.Reading.{AllFit}
use Rattle.record.specs.Record.{most_events, body_of}
use Rattle.refusal.specs.Refusals.{number_of}
use Rattle.refusal.specs.declared.Refusal.{Refusal}
use Rattle.run.specs.Run.{answer_bytes}
use Rattle.list.specs.List.{room_for, refusals, answer_for, left_for, buffer_for, Listing}

-- ---- "Given exactly when"

abbrev pub ListGivenExactly : Type 0
ListGivenExactly = (r : Registers) (events : List ℕ) (room : ℕ) → Exactly (answer_for r events room) (refusals r events room) 0

-- a refused list changes nothing: no event is run, and no byte written
abbrev pub RefusedListLeaves : Type 0
RefusedListLeaves =
    (c : Controller) (events answers : List ℕ) → answer_for c.registers events (length answers) ≢ 0
    → (left_for c events (length answers) ≡ c) × (buffer_for c events answers ≡ answers)

-- ---- a list equals its events given singly

-- the bytes of any events that a record can hold, at most 4,096, given to a controller in range with room for their answers: done; each event is
-- answered as it is if they are given one after the other, and the controller is the one that they leave; none stops the rest
abbrev pub ListIsItsEvents : Type 0
ListIsItsEvents =
    (c : Controller) (events : List Event) (answers : List ℕ) → T (in_range c.registers) → AllFit events → length events ≤ most_events → length events * 3 ≤ length answers
    → (answer_for c.registers (body_of events) (length answers) ≡ 0)
    × (left_for c (body_of events) (length answers) ≡ after_events events c)
    × (buffer_for c (body_of events) answers ≡ over (answer_bytes (said_by events c)) answers)

-- hence a list cut in two is its parts one after the other: the second part given to what the first leaves, its answers behind the first's
abbrev pub ListInTwo : Type 0
ListInTwo =
    (c : Controller) (first second answers answers' : List ℕ)
    → answer_for c.registers first (length answers) ≡ 0
    → answer_for (left_for c first (length answers)).registers second (length answers') ≡ 0
    → length answers ≡ room_for first
    → length (first ++ second) ≤ 3 * most_events
    → (answer_for c.registers (first ++ second) (length (answers ++ answers')) ≡ 0)
    × (left_for c (first ++ second) (length (answers ++ answers')) ≡ left_for (left_for c first (length answers)) second (length answers'))
    × (buffer_for c (first ++ second) (answers ++ answers') ≡ buffer_for c first answers ++ buffer_for (left_for c first (length answers)) second answers')

-- ---- range is kept

abbrev pub ListKeepsRange : Type 0
ListKeepsRange = (c : Controller) (events : List ℕ) (room : ℕ) → T (in_range c.registers) → T (in_range (left_for c events room).registers)

-- so no event of a list is answered 16
abbrev pub Each : (Said → Type 0) → List Said → Type 0
Each P [] = Unit {0}
Each P (said ∷ more) = P said × Each P more

abbrev pub NoEventNotInRange : Type 0
NoEventNotInRange = (c : Controller) (events : List Event) → T (in_range c.registers) → Each (λ said. said.number ≢ 16) (said_by events c)

-- ---- any two outcomes that a promise allows are equal

abbrev pub NumberSettled : Type 0
NumberSettled = (answer : Result ⊤ Refusal) (r s : ℕ) → r ≡ number_of answer → s ≡ number_of answer → r ≡ s

abbrev pub RunListSettled : Type 0
RunListSettled =
    (c : Controller) (events answers : List ℕ) (r s : Result ⊤ Refusal) (left left' : Controller) (out out' : List ℕ)
    → Listing c events answers (number_of r) left out → Listing c events answers (number_of s) left' out' → (r ≡ s) × (left ≡ left') × (out ≡ out')
