-- Helpers of contracts, not rules of the paper: how many bytes a drawing and its parts have.
use Rattle.std.specs.Prelude.{ℕ, ◌+◌, ◌*◌, ◌/◌, length}
use Rattle.controller.specs.declared.registers.Mode.{Mode}
use Rattle.counters.specs.declared.LineMode.{LineMode}
use Rattle.counters.specs.declared.LineMode.TheVariants.{One, Two}
use Rattle.size.specs.Size.{rows_of}
use Rattle.drawing.specs.Drawing.{height_of, head_of}
use Rattle.drawing.specs.Row.{width_of}
use Rattle.drawing.specs.declared.form.Form.{Form}
use Rattle.drawing.specs.declared.form.Form.TheVariants.{Text, Image}

unfoldable pub row_size : Form → ℕ → ℕ
row_size Text digits = 6 * digits
row_size Image digits = (width_of digits + 7) / 8

unfoldable pub gap_size : Form → ℕ → ℕ
gap_size Text digits = 1
gap_size Image digits = row_size Image digits

unfoldable pub lines_size : LineMode → (gap line : ℕ) → ℕ
lines_size One gap line = line
lines_size Two gap line = line + (gap + line)

unfoldable pub size_of : Form → Mode → (digits : ℕ) → ℕ
size_of form mode digits =
    length (head_of form (width_of digits) (height_of mode)) + lines_size mode.lines (gap_size form digits) (rows_of mode * row_size form digits)
