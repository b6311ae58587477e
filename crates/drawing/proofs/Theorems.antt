-- The theorems about a drawing: when it is refused, and how long it can be, line mode by line mode.
use Prim.Native.Nat.{ℕ, ◌+◌, ◌*◌, ◌-◌, ◌/◌, ◌<◌, ◌≤◌}
use lib.ListN.{length}
use mathlib.Core.Bool.{Bool, true, false}
use native.Mathlib.Omega.{arith}
use Rattle.condition.proofs.First.{first_given_exactly}
use Rattle.condition.specs.First.{absent, distinct}
use Rattle.controller.specs.declared.registers.Mode.{Mode}
use Rattle.counters.specs.declared.LineMode.{LineMode}
use Rattle.counters.specs.declared.LineMode.TheVariants.{One, Two}
use Rattle.size.proofs.Sizes.{digits_counted}
use Rattle.size.specs.Size.{lines_of, most_digits, rows_in}
use Rattle.text.proofs.Decimal.{digits_below}
use Rattle.drawing.specs.Answers.{refusals, answer_for}
use Rattle.drawing.specs.Drawing.{height_of, head_of, most_drawn}
use Rattle.drawing.specs.Promises.{row_size, gap_size, lines_size, size_of}
use Rattle.drawing.specs.Row.{width_of}
use Rattle.drawing.specs.Theorems.{DrawingGivenExactly, AtMost}
use Rattle.drawing.specs.declared.form.Form.{Form}
use Rattle.drawing.specs.declared.form.Form.TheVariants.{Text, Image}
use Rattle.drawing.proofs.Lengths.{length_head, length_drawing}

pub drawing_given_exactly : DrawingGivenExactly
unfolding answer_for refusals absent distinct
drawing_given_exactly form mode digits dots out answer left p =
    rw p.number (first_given_exactly (refusals form mode digits dots out) 0 tt)

-- ---- at most 5,280 bytes
rows_small : (lines : LineMode) (tall : Bool) → rows_in lines tall ≤ 11
unfolding rows_in
rows_small One true = omega arith
rows_small One false = omega arith
rows_small Two tall = omega arith

height_small : (lines : LineMode) (tall : Bool) → lines_of lines * rows_in lines tall + (lines_of lines - 1) < 1000
unfolding lines_of
height_small One tall = omega (arith, rows_small One tall)
height_small Two tall = omega (arith, rows_small Two tall)

head_small : (width height : ℕ) → width < 1000 → height < 1000 → length (head_of Image width height) ≤ 11
head_small width height h k = omega (arith, length_head width height, digits_below 2 width h, digits_below 2 height k)

text_small : (lines : LineMode) (tall : Bool) (digits : ℕ) → digits ≤ most_digits lines → lines_size lines 1 (rows_in lines tall * (6 * digits)) ≤ most_drawn
unfolding lines_size rows_in most_digits
text_small One true digits k = omega arith
text_small One false digits k = omega arith
text_small Two tall digits k = omega arith

image_small : (lines : LineMode) (tall : Bool) (digits : ℕ) → digits ≤ most_digits lines → lines_size lines ((width_of digits + 7) / 8) (rows_in lines tall * ((width_of digits + 7) / 8)) ≤ 1000
unfolding lines_size rows_in most_digits
image_small One true digits k = omega arith
image_small One false digits k = omega arith
image_small Two tall digits k = omega arith

size_small : (form : Form) (mode : Mode) (digits : ℕ) → digits ≤ 80 → digits ≤ most_digits mode.lines → size_of form mode digits ≤ most_drawn
unfolding size_of head_of row_size gap_size
size_small Text mode digits h k = omega (arith, text_small mode.lines mode.tall digits k)
size_small Image mode digits h k =
    omega (arith, head_small (width_of digits) (height_of mode) (omega arith) (height_small mode.lines mode.tall), image_small mode.lines mode.tall digits k)

pub at_most : AtMost
at_most form mode digits dots h =
    let counted = digits_counted mode.lines digits h in
    rw (length_drawing form mode digits dots counted.0) (size_small form mode digits counted.1 counted.2)
