-- "The picture": how many lines, digits, rows and bytes it has.
use Rattle.std.specs.Prelude.{ℕ, ◌*◌, leb, Bool, cond, ◌&&◌}
use Rattle.controller.specs.declared.registers.Mode.{Mode}
use Rattle.counters.specs.declared.LineMode.{LineMode}
use Rattle.counters.specs.declared.LineMode.TheVariants.{One, Two}

-- N = 0 is one line
unfoldable pub lines_of : LineMode → ℕ
lines_of One = 1
lines_of Two = 2

-- up to 80 digits with one line, up to 40 on each of two
unfoldable pub most_digits : LineMode → ℕ
most_digits One = 80
most_digits Two = 40

-- 4: digits 0, above 80 (one line), above 40 (two)
unfoldable pub has_digits : LineMode → ℕ → Bool
has_digits lines digits = leb 1 digits && leb digits (most_digits lines)

-- rows: 11 if N = 0 and F = 1, else 8
unfoldable pub rows_in : LineMode → (tall : Bool) → ℕ
rows_in One tall = cond tall 11 8
rows_in Two tall = 8

abbrev pub rows_of : Mode → ℕ
rows_of mode = rows_in mode.lines mode.tall

-- lines x rows x digits bytes
abbrev pub bytes_of : Mode → ℕ → ℕ
bytes_of mode digits = lines_of mode.lines * rows_of mode * digits

-- no picture has more: 11 rows of 80 digits
abbrev pub most_dots : ℕ
most_dots = 880
