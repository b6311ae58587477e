-- Theorems about a drawing; each is proved in proofs/.
use Rattle.std.specs.Prelude.{ℕ, Result, ◌≤◌, length, true, List, ◌≡◌}
use Rattle.condition.specs.First.{Exactly}
use Rattle.controller.specs.declared.registers.Mode.{Mode}
use Rattle.refusal.specs.Refusals.{number_of}
use Rattle.refusal.specs.declared.Refusal.{Refusal}
use Rattle.size.specs.Size.{has_digits}
use Rattle.drawing.specs.Answers.{refusals, Drawing}
use Rattle.drawing.specs.Drawing.{drawing_of, most_drawn}
use Rattle.drawing.specs.declared.form.Form.{Form}

-- two outcomes that the promise allows are equal, answer and buffer
abbrev pub DrawingSettled : Type 0
DrawingSettled =
    (form : Form) (mode : Mode) (digits : ℕ) (dots out : List ℕ) (answer other : Result ℕ Refusal) (left left_other : List ℕ)
    → Drawing form mode digits dots out answer left
    → Drawing form mode digits dots out other left_other
    → (answer ≡ other) × (left ≡ left_other)

-- each number is given exactly when its rule says
abbrev pub DrawingGivenExactly : Type 0
DrawingGivenExactly =
    (form : Form) (mode : Mode) (digits : ℕ) (dots out : List ℕ) (answer : Result ℕ Refusal) (left : List ℕ)
    → Drawing form mode digits dots out answer left
    → Exactly (number_of answer) (refusals form mode digits dots out) 0

-- no drawing has more bytes than the longest
abbrev pub AtMost : Type 0
AtMost =
    (form : Form) (mode : Mode) (digits : ℕ) (dots : List ℕ) → has_digits mode.lines digits ≡ true → length (drawing_of form mode digits dots) ≤ most_drawn
