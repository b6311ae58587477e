-- "Refusal numbers": when a text is refused, and what a call leaves that prints one.
use Rattle.std.specs.Prelude.{ℕ, Result, eqb, ltb, length, cond, List, [], ◌∷◌, ◌≡◌}
use Rattle.std.specs.Result.{result_unwrap_or}
use Rattle.condition.specs.First.{Rule, ◌when◌, first_of}
use Rattle.lent.specs.Buffer.{unless_refused}
use Rattle.refusal.specs.Refusals.{number_of}
use Rattle.refusal.specs.declared.Refusal.{Refusal}

-- 6: the lent buffer has no room for the longest text of its kind
abbrev pub refusals : (most : ℕ) (out : List ℕ) → List Rule
refusals most out = (6 when ltb (length out) most) ∷ []

unfoldable pub answer_for : (most : ℕ) (out : List ℕ) → ℕ
answer_for most out = first_of (refusals most out) 0

-- what a call promises that prints a text, and answers how many bytes it has: the bytes behind it stay, and a refusal writes none
pub record Printed (most : ℕ) (text out : List ℕ) (r : Result ℕ Refusal) (left : List ℕ) : Type 0 where
  pub number : number_of r ≡ answer_for most out
  pub value : result_unwrap_or r 0 ≡ cond (eqb (answer_for most out) 0) (length text) 0
  pub buffer : left ≡ unless_refused (answer_for most out) text out
