-- The third statement: whatever a part went through, the standard restart for four lines changes nothing in either memory,
-- and from then on the part answers and shows exactly as one just switched on that was given the same two memories and the same restart.
use Rattle.std.specs.Prelude.{ℕ, T, List, ◌≡◌}
use Rattle.bus.specs.Events.{after_events, reached, said_by}
use Rattle.controller.specs.Part.{in_range}
use Rattle.controller.specs.declared.Controller.{Controller}
use Rattle.dots.specs.declared.phase.Phase.{Phase}
use Rattle.event.specs.declared.Event.{Event}
use Rattle.restart.specs.Compared.{Holds, answers, fresh_like, ShownAlike}
use Rattle.restart.specs.Writes.{halves, Write, Given, after, AtEach, patient, FourLines, lower_lines, restart_of}

-- what the restart does to the controller c
pub record Restarts (c : Controller) : Type 0 where
  -- it can always be given, whatever the lower lines hold, to c and to the part just switched on with the same two memories
  pub possible : (lower : List ℕ) → FourLines halves lower → Given halves (patient lower) c
  pub possible_fresh : (lower : List ℕ) → FourLines halves lower → Given halves (patient lower) (fresh_like c)
  -- after each of the twelve writes both memories are what they were
  pub memories : (writes : List Write) → Given halves writes c → AtEach (λ i t. Holds c t) 0 halves writes c
  pub answered : (writes : List Write) → Given halves writes c → AtEach (λ i t. T (answers i t.said.number)) 0 halves writes c
  -- afterwards it equals a part just switched on that was given the same two memories and a restart, with waits and lower lines of its own
  pub equal : (writes others : List Write) → Given halves writes c → Given halves others (fresh_like c)
      → after halves writes c ≡ after halves others (fresh_like c)
  -- hence every later list of transfers and waits is answered alike, the wrap of each included (request 8/12),
  pub told_alike : (writes others : List Write) → Given halves writes c → Given halves others (fresh_like c) → (later : List Event)
      → said_by later (after halves writes c) ≡ said_by later (after halves others (fresh_like c))
  -- and so is every picture along the way, for every digit count, ROM image, blink phase and lent buffer
  pub shown_alike : (writes others : List Write) → Given halves writes c → Given halves others (fresh_like c) → (later : List Event)
      → (digits : ℕ) (rom : List ℕ) (phase : Phase) (out : List ℕ)
      → ShownAlike (after_events later (after halves writes c)) (after_events later (after halves others (fresh_like c))) digits rom phase out

-- for every list of transfers and waits since switching on, halves lost or doubled included
abbrev pub ThirdStatement : Type 0
ThirdStatement = (past : List Event) → Restarts (reached past)

-- and indeed for every controller in range
abbrev pub ForEveryController : Type 0
ForEveryController = (c : Controller) → T (in_range c.registers) → Restarts c

-- and the function `restart` gives such a restart: what it promises is the controller after the writes of the statement
pub record Runs (c : Controller) (lower : List ℕ) : Type 0 where
  pub given : Given halves (patient (lower_lines lower)) c
  pub leaves : (restart_of c (lower_lines lower)).controller ≡ after halves (patient (lower_lines lower)) c

abbrev pub RestartRuns : Type 0
RestartRuns = (c : Controller) (lower : List ℕ) → T (in_range c.registers) → Runs c lower
