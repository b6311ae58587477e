-- The number of a list by its tests, in their order.
use Prim.Native.Nat.{ℕ, ◌*◌, ◌/◌, ◌≤◌, ◌<◌}
use borrow.Author.Tests.{lt-ltb, le-ltb, eq-eqb, ne_eqb}
use lib.ListN.{length}
use mathlib.Core.Bool.{true, false}
use mathlib.Core.List.{List}
use mathlib.Core.Path.{◌≡◌}
use native.Mathlib.Omega.{arith}
use Rattle.condition.specs.First.{first_of}
use Rattle.controller.specs.Part.{in_range}
use Rattle.controller.specs.declared.registers.Registers.{Registers}
use Rattle.record.proofs.FrontEvents.{bad_events_by_front}
use Rattle.record.specs.Record.{events_in}
use Rattle.list.specs.List.{room_for, answer_for}

module _ (r : Registers) (events : List ℕ) (room : ℕ) where
  pub refused_range : in_range r ≡ false → 16 ≡ answer_for r events room
  unfolding answer_for first_of
  refused_range out = rw out

  module _ (ranged : in_range r ≡ true) where
    pub refused_room : room < length events / 3 * 3 → 6 ≡ answer_for r events room
    unfolding answer_for first_of
    refused_room h = rw (ranged, lt-ltb room (room_for events) (omega arith))

    module _ (roomy : length events / 3 * 3 ≤ room) (count : ℕ) (counted : count ≡ length (events_in events)) where
      pub refused_events : (count * 3 ≡ length events → ⊥) → 9 ≡ answer_for r events room
      unfolding answer_for first_of
      refused_events n = rw (ranged, le-ltb room (room_for events) (omega arith), bad_events_by_front events, ← counted, ne_eqb (count * 3) (length events) n)

      pub none_refused : count * 3 ≡ length events → 0 ≡ answer_for r events room
      unfolding answer_for first_of
      none_refused e = rw (ranged, le-ltb room (room_for events) (omega arith), bad_events_by_front events, ← counted, eq-eqb (count * 3) (length events) e)
