-- "The picture": the dots of a digit in a row, one byte.
use Rattle.std.specs.Prelude.{ℕ, ◌+◌, ◌*◌, ◌/◌, ◌%◌, ◌-◌, ltb, eqb, get_or, Bool, true, false, cond, ◌&&◌, ◌||◌, List, ◌≡◌}
use Rattle.controller.specs.declared.Controller.{Controller}
use Rattle.controller.specs.declared.registers.Registers.{Registers}
use Rattle.counters.specs.Address.{address_of}
use Rattle.counters.specs.Counter.{number_on}
use Rattle.counters.specs.declared.address.Cell.{Cell}
use Rattle.lent.specs.Lists.{values, parts}
use Rattle.size.specs.Size.{rows_of}
use Rattle.dots.specs.Digit.{shown_on}
use Rattle.dots.specs.declared.phase.Phase.{Phase}
use Rattle.dots.specs.declared.phase.Phase.TheVariants.{Plain, Dark}

-- the ROM image that the caller lends: 16 bytes for each of 256 codes
abbrev pub image_size : ℕ
image_size = 4096

-- codes 00 to 0F take character memory: at 8 x (code mod 8) + row with 8 rows; at 16 x ((code / 2) mod 4) + row with 11
unfoldable pub character_at : (rows code row : ℕ) → ℕ
character_at rows code row = cond (eqb rows 8) (8 * (code % 8) + row) (16 * (code / 2 % 4) + row)

-- codes 10 to FF hex take ROM byte 16 x code + row
unfoldable pub pattern_of : (character rom : List ℕ) (rows code row : ℕ) → ℕ
pattern_of character rom rows code row =
    cond (ltb code 0x10) (get_or character (character_at rows code row) 0) (get_or rom (16 * code + row) 0)

-- the digit whose display address equals the counter, also while the counter belongs to character memory
unfoldable pub is_marked : Registers → Cell → Bool
is_marked r cell = eqb (address_of r.mode.lines cell).0 (number_on r.counter)

-- the cursor, where on, sets all five dots of the last row of that digit
-- blink in the dark phase sets every dot of that digit
unfoldable pub is_set : (cursor blink : Bool) (rows row : ℕ) → Bool
is_set cursor blink rows row = (cursor && eqb row (rows - 1)) || blink

-- low five bits, leftmost dot is bit 4: the pattern's, or all five
unfoldable pub five_of : (set : Bool) (pattern : ℕ) → ℕ
five_of set pattern = cond set 0x1F (pattern % 0x20)

-- the blink phase, dark or plain
unfoldable pub is_dark : Phase → Bool
is_dark Plain = false
is_dark Dark = true

abbrev pub phase_of : (dark : Bool) → Phase
phase_of true = Dark
phase_of false = Plain

-- what `From` promises
abbrev pub is_phase_of : Bool → Phase → Type 0
is_phase_of dark phase = phase ≡ phase_of dark

-- the byte of a cell in a row; display off: all zeros
unfoldable pub cell_dots : Controller → (rom : List ℕ) → Phase → (row : ℕ) → Cell → ℕ
cell_dots c rom phase row cell =
    cond c.registers.lights.display
    (five_of
    (is_marked c.registers cell && is_set c.registers.lights.cursor (c.registers.lights.blink && is_dark phase) (rows_of c.registers.mode) row)
    (pattern_of c.character rom (rows_of c.registers.mode) (get_or c.display cell.0 0) row))
    0

-- the byte of a digit in a row of a line
unfoldable pub dots_at : Controller → (rom : List ℕ) → Phase → (line row digit : ℕ) → ℕ
dots_at c rom phase line row digit =
    cell_dots c rom phase row (shown_on c.registers.mode.lines c.registers.shift line digit)

-- one line: order row, digit
unfoldable pub line_of : Controller → (digits : ℕ) (rom : List ℕ) → Phase → (line : ℕ) → List ℕ
line_of c digits rom phase line = parts (rows_of c.registers.mode) (λ row. values digits (dots_at c rom phase line row))
