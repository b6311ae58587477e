-- Laws of a drawing: how long its parts are, and where its rows stand in the picture's bytes.
use Prim.Native.Nat.{ℕ, ◌+◌, ◌*◌, ◌-◌, ◌≤◌}
use lib.ListN.{length, take, drop, get_or, length-append, length-drop}
use lib.Seq.{take-length, get_or-drop}
use mathlib.Core.List.{List}
use mathlib.Core.Path.{◌≡◌, refl, ◌∙◌}
use native.Mathlib.Nat.{add_assoc, one-mul, zero-add, zero-mul}
use native.Mathlib.Omega.{arith}
use Rattle.controller.specs.declared.registers.Mode.{Mode}
use Rattle.counters.specs.declared.LineMode.{LineMode}
use Rattle.counters.specs.declared.LineMode.TheVariants.{One, Two}
use Rattle.lent.proofs.Lists.{length_parts, length_values}
use Rattle.size.specs.Size.{rows_of}
use Rattle.text.specs.Text.{decimal_of}
use Rattle.drawing.specs.Drawing.{head_of, row_in, gap_in, between, line_in, drawing_of}
use Rattle.drawing.specs.Promises.{row_size, gap_size, lines_size, size_of}
use Rattle.drawing.specs.Row.{text_row, image_row}
use Rattle.drawing.specs.declared.form.Form.{Form}
use Rattle.drawing.specs.declared.form.Form.TheVariants.{Text, Image}

-- ---- lengths
pub length_head : (width height : ℕ) → length (head_of Image width height) ≡ 5 + length (decimal_of width) + length (decimal_of height)
unfolding head_of
length_head width height = simp length-append (omega arith)

pub length_row : (form : Form) (digits : ℕ) (byte : ℕ → ℕ) → 1 ≤ digits → length (row_in form digits byte) ≡ row_size form digits
unfolding row_in row_size text_row image_row
length_row Text digits byte h = simp (length-append, length_values) (omega arith)
length_row Image digits byte h = length_values _ _

length_gap : (form : Form) (digits : ℕ) → length (gap_in form digits) ≡ gap_size form digits
unfolding gap_in gap_size row_size image_row
length_gap Text digits = refl
length_gap Image digits = length_values _ _

length_line : (form : Form) (rows digits : ℕ) (dots : List ℕ) (line : ℕ) → 1 ≤ digits → length (line_in form rows digits dots line) ≡ rows * row_size form digits
unfolding line_in
length_line form rows digits dots line h = length_parts rows (row_size form digits) _ (λ row. length_row form digits _ h)

length_between : (lines : LineMode) (gap : List ℕ) (line : ℕ → List ℕ) (s : ℕ) → ((k : ℕ) → length (line k) ≡ s) → length (between lines gap line) ≡ lines_size lines (length gap) s
unfolding between lines_size
length_between One gap line s h = h 0
length_between Two gap line s h = simp (length-append, h)

pub length_drawing : (form : Form) (mode : Mode) (digits : ℕ) (dots : List ℕ) → 1 ≤ digits → length (drawing_of form mode digits dots) ≡ size_of form mode digits
unfolding drawing_of size_of
length_drawing form mode digits dots h =
    length-append (head_of form _ _) _ ∙ rw (length_between mode.lines (gap_in form digits) _ _ (λ line. length_line form (rows_of mode) digits dots line h), length_gap)

-- ---- the bytes from a place on
pub rest_lent : (from : ℕ) (dots : List ℕ) → take (length dots - from) (drop from dots) ≡ drop from dots
rest_lent from dots =
    let rest : length (drop from dots) ≡ length dots - from = length-drop from dots in
    rw (← rest, take-length)

pub row_from : (form : Form) (digits from place : ℕ) (dots : List ℕ) → from ≡ place
    → row_in form digits (λ digit. get_or (take (length dots - from) (drop from dots)) digit 0) ≡ row_in form digits (λ digit. get_or dots (place + digit) 0)
row_from form digits from place dots e = rw (rest_lent, e) (simp get_or-drop)

pub line_behind : (form : Form) (rows digits : ℕ) (dots : List ℕ)
    → line_in form rows digits (take (length dots - rows * digits) (drop (rows * digits) dots)) 0 ≡ line_in form rows digits dots 1
unfolding line_in
line_behind form rows digits dots = rw rest_lent (simp (get_or-drop, zero-mul, one-mul, zero-add, add_assoc))
