-- One row of dots, from the byte of each digit: five columns a digit, and one blank column between digits.
use Prim.Native.Char.{code}
use Rattle.std.specs.Prelude.{ℕ, zero, suc, ◌+◌, ◌*◌, ◌-◌, ◌/◌, ◌%◌, ◌^◌, ltb, eqb, Bool, cond, ◌&&◌, List, ◌++◌}
use Rattle.lent.specs.Lists.{values}
use Rattle.text.specs.Text.{text_of}

abbrev pub width_of : ℕ → ℕ
width_of digits = 6 * digits - 1

-- whether a column of a digit has a dot that is on: leftmost dot is bit 4, and the sixth column is blank
unfoldable pub is_on : (byte column : ℕ) → Bool
is_on byte column = ltb column 5 && eqb (byte / 2 ^ (4 - column) % 2) 1

-- ---- text

-- `#` for a dot that is on and `.` for one that is off, one space between digits
unfoldable pub mark_of : (byte column : ℕ) → ℕ
mark_of byte column = cond (ltb column 5) (cond (is_on byte column) (code "#") (code ".")) (code " ")

-- one line of output, LF at its end
unfoldable pub text_row : (digits : ℕ) (byte : ℕ → ℕ) → List ℕ
text_row digits byte = values (width_of digits) (λ x. mark_of (byte (x / 6)) (x % 6)) ++ text_of "\n"

-- ---- image

-- 1 for a dot that is on, 0 for all else, also behind the last digit
unfoldable pub bit_at : (digits : ℕ) (byte : ℕ → ℕ) (x : ℕ) → ℕ
bit_at digits byte x = cond (ltb x (width_of digits) && is_on (byte (x / 6)) (x % 6)) 1 0

-- n bits as a number, the first in the highest place
unfoldable pub packed : (n : ℕ) (bit : ℕ → ℕ) → ℕ
packed zero bit = 0
packed (suc n) bit = 2 * packed n bit + bit n

-- padded to whole bytes, leftmost dot in the highest bit
unfoldable pub image_row : (digits : ℕ) (byte : ℕ → ℕ) → List ℕ
image_row digits byte = values ((width_of digits + 7) / 8) (λ k. packed 8 (λ n. bit_at digits byte (8 * k + n)))
