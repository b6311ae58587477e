-- Tests as facts, and one computed test for every number below a bound.
use Prim.Native.Nat.{ℕ, zero, suc, ◌<◌}
use lib.Dec.{T, eqb, eqb_refl, T_not}
use mathlib.Core.Bool.{Bool, true, false, cond, ◌&&◌, ◌||◌, not, beq}
use mathlib.Core.Logic.{◌⊎◌, ◌≢◌, inl, inr, ⊎_elim}
use mathlib.Core.Path.{◌≡◌, ◌∙◌, ap, refl, subst, sym}
use native.Mathlib.Nat.{not-suc-le-zero, eq-or-lt_of_le, le_of_suc-le-suc}

pub is_true : (b : Bool) → T b → b ≡ true
is_true true t = refl
is_true false t = absurd t

pub holds : (b : Bool) → b ≡ true → T b
holds b e = subst T (sym e) tt

pub not_not : (b : Bool) → T (not (not b)) → T b
not_not true t = tt
not_not false t = t

pub and_left : (a b : Bool) → T (a && b) → T a
and_left true b t = tt
and_left false b t = t

pub and_right : (a b : Bool) → T (a && b) → T b
and_right true b t = t
and_right false b t = absurd t

pub and_both : (a b : Bool) → T a → T b → T (a && b)
and_both true b t u = u
and_both false b t u = t

pub or_cases : (a b : Bool) → T (a || b) → T a ⊎ T b
or_cases true b t = inl tt
or_cases false b t = inr t

pub same : (a b : Bool) → T (beq a b) → a ≡ b
same true true t = refl
same true false t = absurd t
same false true t = absurd t
same false false t = refl

-- a fact of a choice, from its two cases
pub split {ℓ} : {A : Type ℓ} (P : A → Type 0) (t : Bool) {x y : A} → (T t → P x) → (T (not t) → P y) → P (cond t x y)
split P true f g = f tt
split P false f g = g tt

-- a test that follows from another
infixr 20 ◌⇒◌
abbrev pub ◌⇒◌ : Bool → Bool → Bool
true ⇒ b = b
false ⇒ b = true

pub implies : (a b : Bool) → T (a ⇒ b) → T a → T b
implies true b t u = t
implies false b t u = absurd u

-- a test of every number below n, as one test that computes
abbrev pub every : (ℕ → Bool) → ℕ → Bool
every f zero = true
every f (suc n) = f n && every f n

pub each : (f : ℕ → Bool) (n : ℕ) → T (every f n) → (k : ℕ) → k < n → T (f k)
each f zero t k h = absurd (not-suc-le-zero h)
each f (suc n) t k h =
    ⊎_elim
    (λ (e : k ≡ n). subst (λ (m : ℕ). T (f m)) (sym e) (and_left (f n) (every f n) t))
    (λ (l : k < n). each f n (and_right (f n) (every f n) t) k l)
    (eq-or-lt_of_le (le_of_suc-le-suc h))

pub neqb→ne : (a b : ℕ) → T (not (eqb a b)) → a ≢ b
neqb→ne a b t e = T_not (eqb a b) t (subst (λ (n : ℕ). T (eqb a n)) e (eqb_refl a))

-- what is known of the case that was met
pub met : {A B : Type 0} (f : A → B) {k j : A} {x : B} → k ≡ j → x ≡ f j → x ≡ f k
met f e p = p ∙ ap f (sym e)
