-- Helpers of contracts, not rules of the paper: how wide the columns of a line are, and the lines of events beside their answers.
use Rattle.std.specs.Prelude.{ℕ, ◌+◌, ◌*◌, ◌%◌, ◌≤◌, ◌<◌, length, drop, get_or, List, [], ◌∷◌, ◌++◌, ◌≡◌}
use Rattle.record.specs.Event.{word_of}
use Rattle.record.specs.Record.{most_events}
use Rattle.table.specs.Table.{line_of}
use Rattle.table.specs.declared.line.Line.{Line}

-- at most 4, 1, 2 and 1 digits; the two columns beside them are 16 bits and a byte, at most 5 and 3. With the byte behind each they are `line_bytes`
pub record Narrow (line : Line) : Type 0 where
  pub four : line.number < 10000
  pub one : line.kind < 10
  pub two : line.answer < 100
  pub last : line.wrap < 10

-- a line for each event of a list: its three bytes, and the three of its answer
unfoldable pub lines_of : (number : ℕ) → (events answers : List ℕ) → List ℕ
lines_of number [] answers = []
lines_of number (kind ∷ []) answers = []
lines_of number (kind ∷ high ∷ []) answers = []
lines_of number (kind ∷ high ∷ low ∷ events) answers =
    line_of number kind (word_of high low) (get_or answers 0 0) (get_or answers 1 0) (get_or answers 2 0) ++ lines_of (number + 1) events (drop 3 answers)

-- one digit for each kind, two for each answer, one for each wrap
unfoldable pub AllNarrow : (events answers : List ℕ) → Type 0
AllNarrow [] answers = Unit {0}
AllNarrow (kind ∷ []) answers = Unit {0}
AllNarrow (kind ∷ high ∷ []) answers = Unit {0}
AllNarrow (kind ∷ high ∷ low ∷ events) answers = (kind < 10) × (get_or answers 0 0 < 100) × (get_or answers 2 0 < 10) × AllNarrow events (drop 3 answers)

-- whole events, at most 4,096, with their answers
pub record Printable (events answers : List ℕ) : Type 0 where
  pub whole : length events % 3 ≡ 0
  pub few : length events ≤ 3 * most_events
  pub answered : length events ≤ length answers
  pub narrow : AllNarrow events answers
