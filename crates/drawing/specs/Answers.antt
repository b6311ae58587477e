-- "Refusal numbers": when a drawing is refused, and what a call leaves.
use Rattle.std.specs.Prelude.{ℕ, Result, ltb, eqb, length, cond, ◌||◌, not, List, [], ◌∷◌, ◌≡◌}
use Rattle.std.specs.Result.{result_unwrap_or}
use Rattle.condition.specs.First.{Rule, ◌when◌, first_of}
use Rattle.controller.specs.declared.registers.Mode.{Mode}
use Rattle.lent.specs.Buffer.{unless_refused}
use Rattle.refusal.specs.Refusals.{number_of}
use Rattle.refusal.specs.declared.Refusal.{Refusal}
use Rattle.size.specs.Size.{has_digits, bytes_of}
use Rattle.drawing.specs.Drawing.{drawing_of}
use Rattle.drawing.specs.declared.form.Form.{Form}

-- 4: digits 0, above 80 (one line), above 40 (two); 6: a lent buffer too short, that of the dots or that of the drawing
unfoldable pub refusals : Form → Mode → (digits : ℕ) (dots out : List ℕ) → List Rule
refusals form mode digits dots out =
    (4 when not (has_digits mode.lines digits))
    ∷ (6 when ltb (length dots) (bytes_of mode digits) || ltb (length out) (length (drawing_of form mode digits dots)))
    ∷ []

unfoldable pub answer_for : Form → Mode → (digits : ℕ) (dots out : List ℕ) → ℕ
answer_for form mode digits dots out = first_of (refusals form mode digits dots out) 0

-- the bytes written are counted; a refused call returns 0 for any value
unfoldable pub value_for : Form → Mode → (digits : ℕ) (dots out : List ℕ) → ℕ
value_for form mode digits dots out = cond (eqb (answer_for form mode digits dots out) 0) (length (drawing_of form mode digits dots)) 0

pub record Drawing (form : Form) (mode : Mode) (digits : ℕ) (dots out : List ℕ) (answer : Result ℕ Refusal) (left : List ℕ) : Type 0 where
  pub number : number_of answer ≡ answer_for form mode digits dots out
  pub value : result_unwrap_or answer 0 ≡ value_for form mode digits dots out
  pub buffer : left ≡ unless_refused (answer_for form mode digits dots out) (drawing_of form mode digits dots) out
