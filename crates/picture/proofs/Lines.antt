-- Laws of all lines of a picture: how long it is, and that with the display off it is all zeros.
use Prim.Native.Nat.{ℕ, ◌*◌}
use lib.ListN.{length, replicate}
use mathlib.Core.Bool.{false}
use mathlib.Core.List.{List}
use mathlib.Core.Path.{◌≡◌, ◌∙◌}
use native.Mathlib.Nat.{mul_assoc}
use Rattle.controller.specs.declared.Controller.{Controller}
use Rattle.dots.specs.Dots.{cell_dots, dots_at, line_of}
use Rattle.dots.specs.declared.phase.Phase.{Phase}
use Rattle.lent.proofs.Lists.{length_parts, length_values, parts_same, parts_replicate, values_same, values_replicate}
use Rattle.size.specs.Size.{rows_of, bytes_of}
use Rattle.picture.specs.Picture.{picture_of}

pub length_picture : (c : Controller) (digits : ℕ) (rom : List ℕ) (phase : Phase) → length (picture_of c digits rom phase) ≡ bytes_of c.registers.mode digits
unfolding picture_of line_of
length_picture c digits rom phase =
    length_parts _ _ _ (λ line. length_parts _ digits _ (λ row. length_values digits _)) ∙ rw mul_assoc

pub off_dots : (c : Controller) (digits : ℕ) (rom : List ℕ) (phase : Phase) → c.registers.lights.display ≡ false
    → picture_of c digits rom phase ≡ replicate (bytes_of c.registers.mode digits) 0
unfolding picture_of line_of dots_at cell_dots
off_dots c digits rom phase off =
    let rows = rows_of c.registers.mode in
    parts_same _ _ (λ line. replicate (rows * digits) 0) (λ line _.
    parts_same rows _ (λ row. replicate digits 0) (λ row _. values_same digits _ (λ d. 0) (λ d _. simp off) ∙ values_replicate digits 0)
    ∙ parts_replicate rows digits 0)
    ∙ parts_replicate _ (rows * digits) 0
    ∙ rw mul_assoc
