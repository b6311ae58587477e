-- "Bench record": what the bench program prints.
use Rattle.std.specs.Prelude.{ℕ, ◌+◌, ◌*◌, ltb, eqb, length, cond, List, [], ◌∷◌, ◌++◌}
use Rattle.bus.specs.Events.{told_by}
use Rattle.condition.specs.Flag.{flag_number}
use Rattle.controller.specs.declared.Controller.{Controller}
use Rattle.event.specs.declared.Event.{Event}
use Rattle.record.specs.Event.{raw_of}
use Rattle.record.specs.Record.{most_events, most_bytes, events_of, check_of}
use Rattle.run.specs.Run.{started_from}
use Rattle.text.specs.Text.{text_of, decimal_of, refused_of}

-- numbers in decimal, a space behind each
unfoldable pub spaced : List ℕ → List ℕ
spaced [] = []
spaced (n ∷ more) = decimal_of n ++ text_of " " ++ spaced more

-- a line: number, kind, value, answer, value read, all decimal; and a sixth column, 0 or 1, headed `wrap` (request 8/12)
unfoldable pub line_of : (number kind value answer read wrap : ℕ) → List ℕ
line_of number kind value answer read wrap = spaced (number ∷ kind ∷ value ∷ answer ∷ read ∷ []) ++ (decimal_of wrap ++ text_of "\n")

-- a line per event, each given to the part as the events before it leave it
unfoldable pub event_lines : (number : ℕ) → List Event → Controller → List ℕ
event_lines number [] c = []
event_lines number (event ∷ events) c =
    line_of number (raw_of event).kind (raw_of event).value (told_by event c).said.number (told_by event c).said.value (flag_number (told_by event c).said.wrap)
    ++ event_lines (number + 1) events (told_by event c).controller

-- the heading, also for an empty record; then the lines, numbered from 1, from a part switched on
unfoldable pub table_of : List ℕ → List ℕ
table_of bytes = text_of "event kind value answer result wrap\n" ++ event_lines 1 (events_of bytes) started_from

-- for more than 12,291 bytes it prints only `too long`, checked first
unfoldable pub printed_of : List ℕ → List ℕ
printed_of bytes =
    cond (ltb most_bytes (length bytes)) (text_of "too long\n")
    (cond (eqb (check_of bytes) 0) (table_of bytes) (refused_of (check_of bytes)))

-- ---- how long it can be

-- numbers of at most 4, 1, 5, 2, 3 and 1 digits, and a byte behind each
abbrev pub line_bytes : ℕ
line_bytes = 22

abbrev pub heading_bytes : ℕ
heading_bytes = 36

-- the heading, and the lines of a record of 4,096 events
abbrev pub most_text : ℕ
most_text = heading_bytes + line_bytes * most_events
