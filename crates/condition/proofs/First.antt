-- Each number is given exactly when its rule says, by induction over the rules.
use Prim.Native.Nat.{ℕ}
use lib.Dec.{T, eqb}
use mathlib.Core.Bool.{Bool, true, false, ◌&&◌, not}
use mathlib.Core.List.{List, [], ◌∷◌}
use mathlib.Core.Logic.{◌≢◌, ◌↔◌}
use mathlib.Core.Path.{◌≡◌, refl, sym, ◌∙◌, subst⁻¹}
use Rattle.condition.specs.First.{Rule, first_of, ExactlyFrom, absent, distinct, FirstGivenExactly}
use Rattle.condition.proofs.Tests.{split, and_left, and_right, neqb→ne}

-- a number that no rule has is not given
not_given : (n : ℕ) (rules : List Rule) (done : ℕ) → T (absent n rules done) → n ≢ first_of rules done
unfolding absent first_of
not_given n [] done t = neqb→ne n done t
not_given n (rule ∷ rules) done t =
    split (λ (m : ℕ). n ≢ m) rule.condition
    (λ u. neqb→ne n rule.number (and_left (not (eqb n rule.number)) (absent n rules done) t))
    (λ u. not_given n rules done (and_right (not (eqb n rule.number)) (absent n rules done) t))

-- what is known of the number n where some rules are still to be looked at: it is theirs, or none of theirs
Known : (before : Bool) → (n : ℕ) → List Rule → (done : ℕ) → Type 0
Known true n rules done = n ≡ first_of rules done
Known false n rules done = T (absent n rules done)

-- one rule, where the rest is known to be as it should
module _ (n : ℕ) (rule : Rule) (rules : List Rule) (done : ℕ) (others : T (absent rule.number rules done))
    (rest : (before : Bool) → Known before n rules done → ExactlyFrom before n rules done) where
  one_more : (before when : Bool) → Known before n (record { number = rule.number; condition = when } ∷ rules) done
      → ((n ≡ rule.number) ↔ T (before && when)) × ExactlyFrom (before && not when) n rules done
  unfolding Known absent first_of
  one_more true true e = ((λ f. tt, λ u. e), rest false (subst⁻¹ (λ (m : ℕ). T (absent m rules done)) e others))
  one_more true false e = ((λ f. absurd (not_given rule.number rules done others (sym f ∙ e)), λ u. absurd u), rest true e)
  one_more false when u = (
    (λ f. absurd (neqb→ne n rule.number (and_left (not (eqb n rule.number)) (absent n rules done) u) f), λ v. absurd v),
    rest false (and_right (not (eqb n rule.number)) (absent n rules done) u),
  )

exactly_from : (rules : List Rule) (done : ℕ) → T (distinct rules done) → (n : ℕ) (before : Bool) → Known before n rules done → ExactlyFrom before n rules done
unfolding Known ExactlyFrom absent distinct first_of
exactly_from [] done t n true k = (λ e. tt, λ u. k)
exactly_from [] done t n false k = (λ e. absurd (neqb→ne n done k e), λ u. absurd u)
exactly_from (rule ∷ rules) done t n before k =
    one_more n rule rules done (and_left (absent rule.number rules done) (distinct rules done) t)
    (exactly_from rules done (and_right (absent rule.number rules done) (distinct rules done) t) n)
    before
    rule.condition
    k

pub first_given_exactly : FirstGivenExactly
unfolding Known
first_given_exactly rules done t = exactly_from rules done t (first_of rules done) true refl
