-- The flags among the bytes of answers, looked through one a turn, and that they are what the answers say.
use Prim.Native.Nat.{ℕ, ◌<◌}
use Rattle.std.proofs.Common.{Bor, Some}
use Rattle.std.proofs.lemmas.Iterator.{YieldsList}
use Rattle.std.proofs.lemmas.List.{take_at, drop_at}
use Rattle.std.specs.Iterator.{AlwaysYields}
use Rattle.std.specs.List.{list_any}
use Rattle.std.specs.Slice.Iter.{chunks_exact_steps}
use Rattle.std.specs.declared.slice.ChunksExact.{ChunksExact}
use lib.Dec.{eqb}
use lib.ListN.{length, take, drop, get_or, length-append}
use mathlib.Core.Bool.{Bool, true, false, not, ◌||◌}
use mathlib.Core.List.{List, [], ◌∷◌, ◌++◌}
use mathlib.Core.Path.{◌≡◌, refl, sym, ap, ◌∙◌}
use native.Mathlib.Omega.{arith}
use Rattle.condition.specs.Flag.{flag_number}
use Rattle.controller.specs.Answers.{Said}
use Rattle.run.specs.Run.{answer_bytes}
use Rattle.bedside.specs.Panel.{any_wrap}
use Rattle.bedside.specs.Promises.{any_third}

-- ---- the answers one by one

unfoldable pub threes : List ℕ → List (List ℕ)
threes [] = []
threes (number ∷ []) = []
threes (number ∷ value ∷ []) = []
threes (number ∷ value ∷ flag ∷ rest) = (number ∷ value ∷ flag ∷ []) ∷ threes rest

abbrev pub wraps : List ℕ → Bool
wraps answer = not (eqb (get_or answer 2 0) 0)

any_threes : (bytes : List ℕ) → list_any wraps (threes bytes) ≡ any_third bytes
unfolding threes any_third
any_threes [] = refl
any_threes (number ∷ []) = refl
any_threes (number ∷ value ∷ []) = refl
any_threes (number ∷ value ∷ flag ∷ rest) = ap (λ (b : Bool). not (eqb flag 0) || b) (any_threes rest)

too_few : (s : ChunksExact ℕ) → s.size ≡ 3 → length s.rest.now < 3 → (x : Bor (List ℕ)) (t : ChunksExact ℕ) → chunks_exact_steps s (Some x) t → ⊥
too_few s size few x t given = absurd (omega (arith, ap length given.1.0, length-append x.now t.rest.now, given.1.1))

gives_threes : (s : ChunksExact ℕ) (bytes : List ℕ) → s.size ≡ 3 → s.rest.now ≡ bytes → AlwaysYields chunks_exact_steps (λ x. x.now) s (threes bytes)
unfolding threes
gives_threes s [] size e = too_few s size (omega (arith, ap length e))
gives_threes s (number ∷ []) size e = too_few s size (omega (arith, ap length e))
gives_threes s (number ∷ value ∷ []) size e = too_few s size (omega (arith, ap length e))
gives_threes s (number ∷ value ∷ flag ∷ rest) size e = (
  (λ t given. absurd (omega (arith, ap length e, given.1.0, size))),
  (λ x t given.
      let cut : x.now ++ t.rest.now ≡ number ∷ value ∷ flag ∷ rest = sym given.1.0 ∙ e in
      let long : length x.now ≡ 3 = given.1.1 ∙ size in (
        sym (take_at x.now t.rest.now 3 long) ∙ ap (take 3) cut,
        gives_threes t rest (given.0 ∙ size) (sym (drop_at x.now t.rest.now 3 long) ∙ ap (drop 3) cut),
      )),
)

pub third_of_any : (s : ChunksExact ℕ) (bytes : List ℕ) → s.size ≡ 3 → s.rest.now ≡ bytes → YieldsList chunks_exact_steps (λ x. x.now) s (threes bytes)
third_of_any s bytes size e = record { runs = gives_threes s bytes size e }

pub any_of_threes : (bytes : List ℕ) (r : Bool) → r ≡ list_any wraps (threes bytes) → r ≡ any_third bytes
any_of_threes bytes r e = e ∙ any_threes bytes

-- ---- what the answers say

flag_tells : (b : Bool) → not (eqb (flag_number b) 0) ≡ b
flag_tells true = refl
flag_tells false = refl

pub any_said : (said : List Said) → any_third (answer_bytes said) ≡ any_wrap said
unfolding any_third answer_bytes any_wrap
any_said [] = refl
any_said (said ∷ more) = rw (flag_tells said.wrap, any_said more) refl
