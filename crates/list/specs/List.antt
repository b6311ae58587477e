-- 7/12: "take a list of events, three bytes each as in the bench record without its head, and return two bytes an event, answer and value read";
-- 8/12: "answers become three bytes an event, the third 0 or 1, and 6 asks for three".
use Rattle.std.specs.Prelude.{ℕ, ◌*◌, ◌/◌, ltb, eqb, length, cond, not, List, [], ◌∷◌, ◌≡◌}
use Rattle.bus.specs.Events.{after_events, said_by}
use Rattle.condition.specs.First.{Rule, ◌when◌, first_of}
use Rattle.controller.specs.Part.{in_range}
use Rattle.controller.specs.declared.Controller.{Controller}
use Rattle.controller.specs.declared.registers.Registers.{Registers}
use Rattle.lent.specs.Buffer.{unless_refused}
use Rattle.record.specs.Record.{events_in, bad_events}
use Rattle.run.specs.Run.{answer_bytes}

-- three bytes for each whole event
abbrev pub room_for : (events : List ℕ) → ℕ
room_for events = 3 * (length events / 3)

-- "16 …; 6 output below two bytes" (8/12: three) "for each whole event; 9 as for records; in that order"
abbrev pub refusals : Registers → (events : List ℕ) (room : ℕ) → List Rule
refusals r events room = (16 when not (in_range r)) ∷ (6 when ltb room (room_for events)) ∷ (9 when bad_events events) ∷ []

unfoldable pub answer_for : Registers → (events : List ℕ) (room : ℕ) → ℕ
answer_for r events room = first_of (refusals r events room) 0

-- "the result equals the events given singly in order"; refused, "no event is run"
unfoldable pub left_for : Controller → (events : List ℕ) (room : ℕ) → Controller
left_for c events room = cond (eqb (answer_for c.registers events room) 0) (after_events (events_in events) c) c

-- answer, value read and wrap of each; "bytes behind the answers stay"
unfoldable pub buffer_for : Controller → (events answers : List ℕ) → List ℕ
buffer_for c events answers = unless_refused (answer_for c.registers events (length answers)) (answer_bytes (said_by (events_in events) c)) answers

-- what a list promises: its number, the controller, and each byte of the buffer
pub record Listing (c : Controller) (events answers : List ℕ) (n : ℕ) (left : Controller) (out : List ℕ) : Type 0 where
  pub number : n ≡ answer_for c.registers events (length answers)
  pub controller : left ≡ left_for c events (length answers)
  pub buffer : out ≡ buffer_for c events answers
