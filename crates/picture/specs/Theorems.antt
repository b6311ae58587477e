-- Theorems about the picture; each is proved in proofs/.
use Rattle.std.specs.Prelude.{⊤, ℕ, ◌+◌, ◌*◌, ◌<◌, ◌≤◌, length, get_or, set, replicate, true, false, List, Result, Ok, ◌≡◌}
use Rattle.condition.specs.First.{Exactly}
use Rattle.controller.specs.Part.{in_range}
use Rattle.controller.specs.declared.Controller.{Controller}
use Rattle.controller.specs.declared.registers.Registers.{Registers}
use Rattle.counters.specs.Counter.{number_on}
use Rattle.counters.specs.declared.LineMode.TheVariants.{Two}
use Rattle.counters.specs.declared.address.Cell.{Cell}
use Rattle.dots.specs.Digit.{shown_on}
use Rattle.dots.specs.Dots.{is_marked, dots_at}
use Rattle.dots.specs.declared.phase.Phase.{Phase}
use Rattle.refusal.specs.Refusals.{number_of}
use Rattle.refusal.specs.declared.Refusal.{Refusal}
use Rattle.size.specs.Size.{lines_of, rows_of, bytes_of}
use Rattle.picture.specs.Answers.{refusals, answer_for, buffer_for, Pictured}
use Rattle.picture.specs.Picture.{picture_of}

-- two outcomes that the promise allows are equal, answer and buffer
abbrev pub PictureSettled : Type 0
PictureSettled =
    (c : Controller) (digits : ℕ) (rom : List ℕ) (phase : Phase) (out : List ℕ) (answer other : Result ⊤ Refusal) (left left_other : List ℕ)
    → Pictured c digits rom phase out answer left
    → Pictured c digits rom phase out other left_other
    → (answer ≡ other) × (left ≡ left_other)

-- each number is given exactly when its rule says
abbrev pub PictureGivenExactly : Type 0
PictureGivenExactly =
    (c : Controller) (digits : ℕ) (rom : List ℕ) (phase : Phase) (out : List ℕ) (answer : Result ⊤ Refusal) (left : List ℕ)
    → Pictured c digits rom phase out answer left
    → Exactly (number_of answer) (refusals c digits (length rom) (length out)) 0

-- a call that is done leaves the byte of a digit in a row of a line at (line x rows + row) x digits + digit
abbrev pub ByteByByte : Type 0
ByteByByte =
    (c : Controller) (digits : ℕ) (rom : List ℕ) (phase : Phase) (out left : List ℕ)
    → Pictured c digits rom phase out (Ok tt) left
    → (line row digit : ℕ) → line < lines_of c.registers.mode.lines → row < rows_of c.registers.mode → digit < digits
    → get_or left ((line * rows_of c.registers.mode + row) * digits + digit) 0 ≡ dots_at c rom phase line row digit

-- and the bytes behind the picture stay
abbrev pub RestStays : Type 0
RestStays =
    (c : Controller) (digits : ℕ) (rom : List ℕ) (phase : Phase) (out left : List ℕ)
    → Pictured c digits rom phase out (Ok tt) left
    → (length left ≡ length out) × ((k : ℕ) → bytes_of c.registers.mode digits ≤ k → get_or left k 0 ≡ get_or out k 0)

-- two parts with the same memories, address, shift, mode and lights
pub record SameScreen (a b : Controller) : Type 0 where
  pub display : a.display ≡ b.display
  pub character : a.character ≡ b.character
  pub address : number_on a.registers.counter ≡ number_on b.registers.counter
  pub shift : a.registers.shift ≡ b.registers.shift
  pub mode : a.registers.mode ≡ b.registers.mode
  pub lights : a.registers.lights ≡ b.registers.lights

-- the picture depends on nothing else: not on busy time, a waiting half, the bus, the entry mode,
-- nor on which memory the counter belongs to
abbrev pub OnlyTheScreenMatters : Type 0
OnlyTheScreenMatters =
    (a b : Controller) → SameScreen a b → in_range a.registers ≡ true → in_range b.registers ≡ true
    → (digits : ℕ) (rom : List ℕ) (phase : Phase) (out : List ℕ)
    → (answer_for a digits (length rom) (length out) ≡ answer_for b digits (length rom) (length out)) × (buffer_for a digits rom phase out ≡ buffer_for b digits rom phase out)

-- display off: all zeros
abbrev pub DisplayOffIsZeros : Type 0
DisplayOffIsZeros =
    (c : Controller) (digits : ℕ) (rom : List ℕ) (phase : Phase) → c.registers.lights.display ≡ false
    → picture_of c digits rom phase ≡ replicate (bytes_of c.registers.mode digits) 0

-- only the low five bits are ever set
abbrev pub FiveBitsOnly : Type 0
FiveBitsOnly = (c : Controller) (digits : ℕ) (rom : List ℕ) (phase : Phase) (k : ℕ) → get_or (picture_of c digits rom phase) k 0 < 0x20

-- the part with another byte in a cell
abbrev pub stored_in : Controller → (cell byte : ℕ) → Controller
stored_in c cell byte = record { display = set c.display cell byte; character = c.character; registers = c.registers }

-- a cell that no digit asked for shows does not matter
abbrev pub OnlyShownCellsMatter : Type 0
OnlyShownCellsMatter =
    (c : Controller) (digits : ℕ) (rom : List ℕ) (phase : Phase) (cell byte : ℕ)
    → ((line digit : ℕ) → line < lines_of c.registers.mode.lines → digit < digits → (shown_on c.registers.mode.lines c.registers.shift line digit).0 ≡ cell → ⊥)
    → picture_of (stored_in c cell byte) digits rom phase ≡ picture_of c digits rom phase

-- with two lines an address from 28 to 3F marks no digit
abbrev pub GapMarksNothing : Type 0
GapMarksNothing =
    (r : Registers) → r.mode.lines ≡ Two → 0x28 ≤ number_on r.counter → number_on r.counter < 0x40 → (cell : Cell) → is_marked r cell ≡ false
