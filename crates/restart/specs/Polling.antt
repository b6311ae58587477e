-- "003's procedure polls the busy flag": status reads as two like halves between two of the last four bytes change nothing.
use Rattle.std.specs.Prelude.{ℕ, ◌+◌, ◌*◌, ◌≤◌, T, take, List, [], ◌∷◌, ◌≡◌}
use Rattle.bus.specs.Events.{after_events, waits}
use Rattle.controller.specs.Part.{in_range}
use Rattle.controller.specs.declared.Controller.{Controller}
use Rattle.controller.specs.declared.registers.Registers.{Registers}
use Rattle.event.specs.declared.Event.{Event}
use Rattle.event.specs.declared.Event.TheVariants.{Transfer, Wait}
use Rattle.event.specs.declared.Kind.TheVariants.{StatusRead}
use Rattle.halves.specs.declared.Half.{Half}
use Rattle.halves.specs.declared.LineCount.{LineCount}
use Rattle.restart.specs.Writes.{halves, Write, Given, after}

-- what a client does before a write: it polls the busy flag with any numbers on the lines, or waits
pub data Pause : Type 0 where
  Poll : (first second : ℕ) → Pause
  Ticks : ℕ → Pause

unfoldable pub pause_events : List Pause → List Event
pause_events [] = []
pause_events (Poll n m ∷ ps) = Transfer StatusRead n ∷ Transfer StatusRead m ∷ pause_events ps
pause_events (Ticks n ∷ ps) = Wait n ∷ pause_events ps

-- the waits alone
unfoldable pub pause_ticks : List Pause → List ℕ
pause_ticks [] = []
pause_ticks (Poll n m ∷ ps) = pause_ticks ps
pause_ticks (Ticks n ∷ ps) = n ∷ pause_ticks ps

-- four lines, and no half waits
pub record Calm (r : Registers) : Type 0 where
  pub four : r.bus ≡ LineCount.Four
  pub nothing_waits : r.half ≡ Half.Nothing

-- on four lines with no half waiting, a client that polls and waits leaves the part as one that only waits
abbrev pub PollsAreWaits : Type 0
PollsAreWaits =
    (c : Controller) → T (in_range c.registers) → Calm c.registers → (pauses : List Pause) → after_events (pause_events pauses) c ≡ waits (pause_ticks pauses) c

-- and so it is behind 3, 3, 3, 2 and behind each of the four bytes: after 4, 6, 8, 10 and 12 of the writes
abbrev pub CalmBetweenBytes : Type 0
CalmBetweenBytes =
    (c : Controller) → T (in_range c.registers) → (bytes : ℕ) → bytes ≤ 4 → (writes : List Write) → Given (take (4 + 2 * bytes) halves) writes c
    → Calm (after (take (4 + 2 * bytes) halves) writes c).registers
