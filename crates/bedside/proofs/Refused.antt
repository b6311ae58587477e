-- Rules tested one after the other: the first that is met gives the answer.
use Prim.Native.Nat.{ℕ}
use Rattle.std.specs.Prelude.{⊤, Result, Ok, Err}
use Rattle.std.specs.Result.{is_err}
use lib.Dec.{T}
use mathlib.Core.Bool.{Bool, true, false, cond, not}
use mathlib.Core.List.{List, [], ◌∷◌}
use mathlib.Core.Logic.{◌≢◌}
use mathlib.Core.Path.{◌≡◌, refl, sym, ap, ◌∙◌, subst}
use Rattle.condition.specs.First.{Rule, first_of}
use Rattle.refusal.specs.Refusals.{number_of}
use Rattle.refusal.specs.declared.Refusal.{Refusal}

pub met_first : (rule : Rule) (rules : List Rule) → rule.condition ≡ true → rule.number ≡ first_of (rule ∷ rules) 0
unfolding first_of
met_first rule rules e = rw e refl

pub not_met : (rule : Rule) (rules : List Rule) {answer : ℕ} → rule.condition ≡ false → answer ≡ first_of rules 0 → answer ≡ first_of (rule ∷ rules) 0
unfolding first_of
not_met rule rules e p = rw e p

pub none_met : 0 ≡ first_of [] 0
unfolding first_of
none_met = refl

-- and where the answer is 0, none of them is met
pub unmet : (rule : Rule) (rules : List Rule) → rule.number ≢ 0 → first_of (rule ∷ rules) 0 ≡ 0 → T (not rule.condition) × (first_of rules 0 ≡ 0)
unfolding first_of
unmet rule rules n = by_condition rule.condition
  where
    by_condition : (b : Bool) → cond b rule.number (first_of rules 0) ≡ 0 → T (not b) × (first_of rules 0 ≡ 0)
    by_condition true e = absurd (n e)
    by_condition false e = (tt, e)

-- a test that the code makes of the opposite
pub told_not : {test told : Bool} {b : Bool} → told ≡ test → not told ≡ b → not test ≡ b
told_not e p = ap not (sym e) ∙ p

-- 0 is answered where the call is done
pub done_zero : {A : Type 0} (r : Result A Refusal) → is_err r ≡ false → number_of r ≡ 0
done_zero (Ok x) e = refl
done_zero (Err refusal) e = absurd (subst (λ (b : Bool). cond b ⊤ ⊥) e tt)
