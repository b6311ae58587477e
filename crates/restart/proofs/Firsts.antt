-- The writes still to come, as the loop has them: upper lines, and numbers whose low halves are the lower lines.
use Prim.Native.Nat.{ℕ, zero, suc, ◌+◌, ◌%◌, ◌≤◌}
use lib.Dec.{lit≤}
use lib.ListN.{length, drop, get_or, drop_of_length-le}
use lib.Seq.{drop-cons}
use mathlib.Core.List.{List, [], ◌∷◌, map}
use mathlib.Core.Logic.{◌⊎◌, inl, inr}
use mathlib.Core.Path.{◌≡◌, ◌∙◌, refl, sym, ap}
use native.Mathlib.Numerals.{add-one}
use native.Mathlib.Omega.{arith}
use Rattle.controller.specs.declared.Controller.{Controller}
use Rattle.restart.specs.Writes.{halves, patiently, told_of, after, patient, lower_from, lower_lines}

-- the low halves of the numbers
abbrev pub low : List ℕ → List ℕ
low = map (λ n. n % 16)

low_from : (i n : ℕ) (ls : List ℕ) → i + n ≡ length ls → lower_from i n ls ≡ low (drop i ls)
low_from i zero ls e = ap low (sym (drop_of_length-le ls (omega arith)))
low_from i (suc n) ls e = rw (drop-cons ls i 0 (omega arith)) (ap (λ (l : List ℕ). get_or ls i 0 % 16 ∷ l) (low_from (i + 1) n ls (omega arith) ∙ ap (λ (k : ℕ). low (drop k ls)) (add-one i)))

-- four lines carry each upper half
unfoldable pub Small : List ℕ → Type 0
Small [] = Unit {0}
Small (h ∷ hs) = (h ≤ 15) × Small hs

pub small_halves : Small halves
unfolding Small
small_halves = (lit≤ tt, (lit≤ tt, (lit≤ tt, (lit≤ tt, (lit≤ tt, (lit≤ tt, (lit≤ tt, (lit≤ tt, (lit≤ tt, (lit≤ tt, (lit≤ tt, (lit≤ tt, tt))))))))))))

module _ (c : Controller) where
  pub all_to_come : (hs ls lower : List ℕ) → hs ≡ halves → ls ≡ lower → length lower ≡ 12 → after hs (patient (low ls)) c ≡ after halves (patient (lower_lines lower)) c
  all_to_come hs ls lower e f long = rw (e, f) (ap (λ (l : List ℕ). after halves (patient l) c) (sym (low_from 0 12 lower (sym long))))

  module _ (hs ls : List ℕ) where
    pub first_small : (h : ℕ) (more : List ℕ) → hs ≡ h ∷ more → Small hs → (h ≤ 15) × Small more
    unfolding Small
    first_small h more e s = rw e at s

    pub first_given : (h l : ℕ) (more others : List ℕ) → hs ≡ h ∷ more → ls ≡ l ∷ others → after hs (patient (low ls)) c ≡ after more (patient (low others)) (told_of h (patiently (l % 16)) c).controller
    unfolding after patient
    first_given h l more others e f = rw (e, f) refl

    pub none_to_come : (length hs ≡ 0) ⊎ (length ls ≡ 0) → after hs (patient (low ls)) c ≡ c
    unfolding after patient
    none_to_come = ended hs ls
      where
        ended : (hs ls : List ℕ) → (length hs ≡ 0) ⊎ (length ls ≡ 0) → after hs (patient (low ls)) c ≡ c
        ended [] ls e = refl
        ended (h ∷ hs) [] e = refl
        ended (h ∷ hs) (l ∷ ls) (inl e) = absurd (omega arith)
        ended (h ∷ hs) (l ∷ ls) (inr e) = absurd (omega arith)
