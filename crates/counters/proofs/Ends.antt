-- Whether a step passes an end is a test of the one address that it starts from.
use Prim.Native.Nat.{ℕ}
use borrow.Author.Tests.{eq-eqb}
use lib.Dec.{eqb, eqb→eq}
use mathlib.Core.Bool.{Bool, true, false, ◌&&◌, and-false}
use mathlib.Core.Path.{◌≡◌, ◌∙◌, ap, refl}
use Rattle.condition.proofs.Tests.{holds}

-- where a step leads from `from` to `to`, "n is the one and steps to the other" says no more than "n is the one"
module _ (step : ℕ → ℕ) (n from to : ℕ) (leads : step from ≡ to) where
  there : eqb n from ≡ true → eqb (step n) to ≡ true
  there e = eq-eqb (step n) to (ap step (eqb→eq n from (holds (eqb n from) e)) ∙ leads)

  pub passes_up : eqb n from ≡ (eqb n from && eqb (step n) to)
  passes_up = by_test (eqb n from) refl
    where
      by_test : (b : Bool) → eqb n from ≡ b → b ≡ (b && eqb (step n) to)
      by_test true e = rw (there e)
      by_test false e = refl

  pub passes_down : eqb n from ≡ (eqb (step n) to && eqb n from)
  passes_down = by_test (eqb n from) refl
    where
      by_test : (b : Bool) → eqb n from ≡ b → b ≡ (eqb (step n) to && b)
      by_test true e = rw (there e)
      by_test false e = rw (and-false (eqb (step n) to))
