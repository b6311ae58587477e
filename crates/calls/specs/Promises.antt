-- Helpers of contracts, not rules: what a call that puts events promises, and the room that it asks for.
use Rattle.std.specs.Prelude.{ℕ, ◌+◌, ◌*◌, ◌≤◌, List}
use Rattle.event.specs.declared.Event.{Event}
use Rattle.lent.specs.Put.{Puts}
use Rattle.record.specs.Reading.{AllFit}
use Rattle.record.specs.Record.{body_of}
use Rattle.calls.specs.Nights.{last_night}
use Rattle.calls.specs.declared.Call.{Call}
use Rattle.calls.specs.declared.Call.TheVariants.{Text, Log}

-- the bytes of the events, each of which a record can hold
pub record PutsEvents (events : List Event) (place : ℕ) (out : List ℕ) (r : ℕ) (left : List ℕ) : Type 0 where
  pub puts : Puts (body_of events) place out r left
  pub fit : AllFit events

-- a transfer and the wait before it
abbrev pub transfer_room : ℕ
transfer_room = 6

-- bytes of which each is two halves at most
abbrev pub room_for : (bytes : ℕ) → ℕ
room_for bytes = bytes * (2 * transfer_room)

-- the bytes of a call: two addresses and the characters, or three addresses, figure and mark
abbrev pub bytes_in : Call → (count : ℕ) → ℕ
bytes_in (Text line) count = 2 + count
bytes_in (Log night quarters) count = 5

-- a night that is logged is one of the course
abbrev pub InCourse : Call → Type 0
InCourse (Text line) = Unit {0}
InCourse (Log night quarters) = night ≤ last_night
