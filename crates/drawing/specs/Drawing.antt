-- The whole drawing, from the picture's bytes: text, or a raw PBM image (P4).
use Rattle.std.specs.Prelude.{ℕ, ◌+◌, ◌*◌, ◌-◌, get_or, List, [], ◌++◌}
use Rattle.controller.specs.declared.registers.Mode.{Mode}
use Rattle.counters.specs.declared.LineMode.{LineMode}
use Rattle.counters.specs.declared.LineMode.TheVariants.{One, Two}
use Rattle.lent.specs.Lists.{parts}
use Rattle.size.specs.Size.{lines_of, rows_of}
use Rattle.text.specs.Text.{text_of, decimal_of}
use Rattle.drawing.specs.Row.{width_of, text_row, image_row}
use Rattle.drawing.specs.declared.form.Form.{Form}
use Rattle.drawing.specs.declared.form.Form.TheVariants.{Text, Image}

-- one blank row between the picture's lines
abbrev pub height_of : Mode → ℕ
height_of mode = lines_of mode.lines * rows_of mode + (lines_of mode.lines - 1)

-- an image starts with its kind, width and height
unfoldable pub head_of : Form → (width height : ℕ) → List ℕ
head_of Text width height = []
head_of Image width height =
    text_of "P4\n" ++ ((decimal_of width ++ text_of " ") ++ (decimal_of height ++ text_of "\n"))

-- a row of dots, from the byte of each digit
unfoldable pub row_in : Form → (digits : ℕ) (byte : ℕ → ℕ) → List ℕ
row_in Text = text_row
row_in Image = image_row

-- what stands between the two lines of the picture: an empty line, or a row with no dot on
unfoldable pub gap_in : Form → (digits : ℕ) → List ℕ
gap_in Text digits = text_of "\n"
gap_in Image digits = image_row digits (λ digit. 0)

unfoldable pub between : LineMode → (gap : List ℕ) (line : ℕ → List ℕ) → List ℕ
between One gap line = line 0
between Two gap line = line 0 ++ (gap ++ line 1)

-- the picture's bytes stand in the order line, row, digit
unfoldable pub line_in : Form → (rows digits : ℕ) (dots : List ℕ) (line : ℕ) → List ℕ
line_in form rows digits dots line =
    parts rows (λ row. row_in form digits (λ digit. get_or dots (line * (rows * digits) + row * digits + digit) 0))

unfoldable pub drawing_of : Form → Mode → (digits : ℕ) (dots : List ℕ) → List ℕ
drawing_of form mode digits dots =
    head_of form (width_of digits) (height_of mode) ++ between mode.lines (gap_in form digits) (line_in form (rows_of mode) digits dots)

-- no drawing has more bytes: the text of 11 rows of 80 digits
abbrev pub most_drawn : ℕ
most_drawn = 5280
