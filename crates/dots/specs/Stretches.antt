-- 003, "Display Data RAM": the address at each display position of a shifted screen, in two stretches, and the sheet's own tables. A second reading of `shown_on`.
use Rattle.std.specs.Prelude.{ℕ, ◌+◌, ◌*◌, ◌-◌, ◌<◌, ◌≤◌, length, take, Bool, true, false, List, [], ◌∷◌, ◌++◌, map, ◌≡◌}
use Rattle.counters.specs.Address.{address_of}
use Rattle.counters.specs.Shift.{shift, move_of}
use Rattle.counters.specs.declared.LineMode.{LineMode}
use Rattle.counters.specs.declared.LineMode.TheVariants.{One, Two}
use Rattle.counters.specs.declared.shift.Shift.{Shift}
use Rattle.lent.specs.Lists.{values}
use Rattle.size.specs.Size.{lines_of, most_digits}
use Rattle.dots.specs.Digit.{shown_on}

-- ---- the two stretches
-- the head address of a line: 00 with one line; with two 00 of the first line, 40 of the second
unfoldable pub head_address : LineMode → (line : ℕ) → ℕ
head_address One line = 0x00
head_address Two line = 0x40 * line

-- its last address: 4F with one line; with two 27 of the first line, 67 of the second
unfoldable pub last_address : LineMode → (line : ℕ) → ℕ
last_address One line = 0x4F
last_address Two line = 0x40 * line + 0x27

-- the addresses a to b
infix 4 ◌to◌
unfoldable pub ◌to◌ : (a b : ℕ) → List ℕ
a to b = values (b + 1 - a) (λ k. a + k)

-- the addresses at so many display positions: from the one that the shift leads to, up to the end of the line; then from its start again
unfoldable pub in_stretches : LineMode → Shift → (line digits : ℕ) → List ℕ
in_stretches lines s line digits =
    take digits ((head_address lines line + s.0 to last_address lines line) ++ (head_address lines line to last_address lines line))

-- the same by the rule of the picture
unfoldable pub by_rule : LineMode → Shift → (line digits : ℕ) → List ℕ
by_rule lines s line digits = values digits (λ d. (address_of lines (shown_on lines s line d)).0)

-- the claim: for every shift, line and number of digits that there is
abbrev pub TwoStretches : Type 0
TwoStretches =
    (lines : LineMode) (s : Shift) (line digits : ℕ) → s.0 < most_digits lines → line < lines_of lines → digits ≤ most_digits lines
    → by_rule lines s line digits ≡ in_stretches lines s line digits

-- ---- the sheet's tables
-- a line of a screen that was shifted by one position: the line mode, whether to the right, which line, and the addresses from the first digit on
pub record ShiftedLine : Type 0 where
  pub lines : LineMode
  pub right : Bool
  pub line : ℕ
  pub addresses : List ℕ

abbrev shifted : (right : Bool) → LineMode → (line : ℕ) → List ℕ → ShiftedLine
shifted right lines line addresses = record { lines = lines; right = right; line = line; addresses = addresses }

-- "Display shifted to right", "Display shifted to left"
abbrev to_right : LineMode → (line : ℕ) → List ℕ → ShiftedLine
to_right = shifted true

abbrev to_left : LineMode → (line : ℕ) → List ℕ → ShiftedLine
to_left = shifted false

unfoldable pub sheet_tables : List ShiftedLine
sheet_tables =
    -- (1) one line, MSM6222B-01 alone
    to_right One 0 (0x4F ∷ 0x00 ∷ 0x01 ∷ 0x02 ∷ 0x03 ∷ 0x04 ∷ 0x05 ∷ 0x06 ∷ [])
    ∷ to_left One 0 (0x01 ∷ 0x02 ∷ 0x03 ∷ 0x04 ∷ 0x05 ∷ 0x06 ∷ 0x07 ∷ 0x08 ∷ [])
    -- with one MSM5259
    ∷ to_right One 0 (0x4F ∷ 0x00 ∷ 0x01 ∷ 0x02 ∷ 0x03 ∷ 0x04 ∷ 0x05 ∷ 0x06 ∷ 0x07 ∷ 0x08 ∷ 0x09 ∷ 0x0A ∷ 0x0B ∷ 0x0C ∷ 0x0D ∷ 0x0E ∷ [])
    ∷ to_left One 0 (0x01 ∷ 0x02 ∷ 0x03 ∷ 0x04 ∷ 0x05 ∷ 0x06 ∷ 0x07 ∷ 0x08 ∷ 0x09 ∷ 0x0A ∷ 0x0B ∷ 0x0C ∷ 0x0D ∷ 0x0E ∷ 0x0F ∷ 0x10 ∷ [])
    -- (2) two lines, MSM6222B-01 alone
    ∷ to_right Two 0 (0x27 ∷ 0x00 ∷ 0x01 ∷ 0x02 ∷ 0x03 ∷ 0x04 ∷ 0x05 ∷ 0x06 ∷ [])
    ∷ to_right Two 1 (0x67 ∷ 0x40 ∷ 0x41 ∷ 0x42 ∷ 0x43 ∷ 0x44 ∷ 0x45 ∷ 0x46 ∷ [])
    ∷ to_left Two 0 (0x01 ∷ 0x02 ∷ 0x03 ∷ 0x04 ∷ 0x05 ∷ 0x06 ∷ 0x07 ∷ 0x08 ∷ [])
    ∷ to_left Two 1 (0x41 ∷ 0x42 ∷ 0x43 ∷ 0x44 ∷ 0x45 ∷ 0x46 ∷ 0x47 ∷ 0x48 ∷ [])
    -- with one MSM5259
    ∷ to_right Two 0 (0x27 ∷ 0x00 ∷ 0x01 ∷ 0x02 ∷ 0x03 ∷ 0x04 ∷ 0x05 ∷ 0x06 ∷ 0x07 ∷ 0x08 ∷ 0x09 ∷ 0x0A ∷ 0x0B ∷ 0x0C ∷ 0x0D ∷ 0x0E ∷ [])
    ∷ to_right Two 1 (0x67 ∷ 0x40 ∷ 0x41 ∷ 0x42 ∷ 0x43 ∷ 0x44 ∷ 0x45 ∷ 0x46 ∷ 0x47 ∷ 0x48 ∷ 0x49 ∷ 0x4A ∷ 0x4B ∷ 0x4C ∷ 0x4D ∷ 0x4E ∷ [])
    ∷ to_left Two 0 (0x01 ∷ 0x02 ∷ 0x03 ∷ 0x04 ∷ 0x05 ∷ 0x06 ∷ 0x07 ∷ 0x08 ∷ 0x09 ∷ 0x0A ∷ 0x0B ∷ 0x0C ∷ 0x0D ∷ 0x0E ∷ 0x0F ∷ 0x10 ∷ [])
    ∷ to_left Two 1 (0x41 ∷ 0x42 ∷ 0x43 ∷ 0x44 ∷ 0x45 ∷ 0x46 ∷ 0x47 ∷ 0x48 ∷ 0x49 ∷ 0x4A ∷ 0x4B ∷ 0x4C ∷ 0x4D ∷ 0x4E ∷ 0x4F ∷ 0x50 ∷ [])
    ∷ []

-- such a line by a reading: the display moved once from shift 0, as many digits as the table has
abbrev read_by : (LineMode → Shift → (line digits : ℕ) → List ℕ) → ShiftedLine → List ℕ
read_by reading l = reading l.lines (move_of l.lines l.right (shift 0)) l.line (length l.addresses)

abbrev printed : ShiftedLine → List ℕ
printed l = l.addresses

-- the claim: the rule and the two stretches both give every line as the sheet prints it
abbrev pub SheetTablesHold : Type 0
SheetTablesHold =
    (map (read_by by_rule) sheet_tables ≡ map printed sheet_tables) × (map (read_by in_stretches) sheet_tables ≡ map printed sheet_tables)
