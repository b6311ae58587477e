-- What is proved of a text in a lent buffer.
use Rattle.std.specs.Prelude.{ℕ, ◌≤◌, Result, length, take, List, ◌≡◌}
use Rattle.std.specs.Result.{result_unwrap_or}
use Rattle.condition.specs.First.{Exactly}
use Rattle.refusal.specs.Refusals.{number_of}
use Rattle.refusal.specs.declared.Refusal.{Refusal}
use Rattle.printing.specs.Answers.{refusals, Printed}

-- any two outcomes that the promise allows are equal, answer and buffer
abbrev pub PrintedSettled : Type 0
PrintedSettled = (most : ℕ) (text out : List ℕ) (r r' : Result ℕ Refusal) (left left' : List ℕ) → Printed most text out r left → Printed most text out r' left' → (r ≡ r') × (left ≡ left')

-- each number is given exactly when its rule says
abbrev pub PrintedGivenExactly : Type 0
PrintedGivenExactly = (most : ℕ) (text out : List ℕ) (r : Result ℕ Refusal) (left : List ℕ) → Printed most text out r left → Exactly (number_of r) (refusals most out) 0

-- the text is in the buffer, at its front
abbrev pub AtTheFront : Type 0
AtTheFront =
    (most : ℕ) (text out : List ℕ) (r : Result ℕ Refusal) (left : List ℕ) → Printed most text out r left
    → (result_unwrap_or r 0 ≤ length left) × (number_of r ≡ 0 → take (result_unwrap_or r 0) left ≡ text)
