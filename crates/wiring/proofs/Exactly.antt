-- Answers that agree are each given exactly when the table says: its rows differ in their numbers, a byte is had back from its halves, and the wrap from the second.
use Prim.Native.Nat.{ℕ, ◌+◌, ◌*◌, ◌/◌, ◌<◌}
use borrow.Author.Tests.{eq-eqb}
use lib.Dec.{T, eqb, eqb→eq}
use mathlib.Core.Bool.{false, ◌&&◌, not}
use mathlib.Core.Logic.{◌↔◌}
use mathlib.Core.Path.{◌≡◌, ◌∙◌, ap, ap₂, refl, sym}
use native.Mathlib.Omega.{arith}
use Rattle.condition.proofs.Tests.{holds, and_left, and_right, neqb→ne}
use Rattle.controller.specs.Answers.{Said}
use Rattle.halves.specs.Halves.{upper, lower}
use Rattle.wiring.specs.Statement.{AgreeGivenExactly}
use Rattle.wiring.specs.Words.{Agree, AgreeExactly}

-- ---- numbers, values and wraps
numbers : {s t : Said} → s ≡ t → s.number ≡ t.number
numbers e = ap (λ (s : Said). s.number) e

values : {s t : Said} → s ≡ t → s.value ≡ t.value
values e = ap (λ (s : Said). s.value) e

wraps : {s t : Said} → s ≡ t → s.wrap ≡ t.wrap
wraps e = ap (λ (s : Said). s.wrap) e

all_three : {s t : Said} → s.number ≡ t.number → s.value ≡ t.value → s.wrap ≡ t.wrap → s ≡ t
all_three d e f i = record { number = d i; value = e i; wrap = f i }

number_exactly : (x m y a z b : ℕ) → eqb x m ≡ eqb y a && eqb z b → (x ≡ m) ↔ ((y ≡ a) × (z ≡ b))
number_exactly x m y a z b e = (
  λ p.
      let t : T (eqb y a && eqb z b) = holds (eqb y a && eqb z b) (sym e ∙ eq-eqb x m p) in
      (eqb→eq y a (and_left (eqb y a) (eqb z b) t), eqb→eq z b (and_right (eqb y a) (eqb z b) t)),
  λ p. eqb→eq x m (holds (eqb x m) (e ∙ rw (eq-eqb y a p.0, eq-eqb z b p.1))),
)

byte_joins : (v : ℕ) → v < 256 → upper v * 16 + lower v * 16 / 16 ≡ v
byte_joins v h = omega arith

-- ---- one row
module _ (eight first second : Said) (u : first.value ≡ upper eight.value * 16) (l : second.value ≡ lower eight.value * 16)
    (no : first.wrap ≡ false) (alike : second.wrap ≡ eight.wrap) where
  values_join : eight.value < 256 → first.value + second.value / 16 ≡ eight.value
  values_join h = ap₂ (λ (x y : ℕ). x + y / 16) u l ∙ byte_joins eight.value h

  row_exactly : eqb eight.number 0 ≡ eqb first.number 20 && eqb second.number 0
      → eqb eight.number 1 ≡ eqb first.number 1 && eqb second.number 1
      → eqb eight.number 3 ≡ eqb first.number 20 && eqb second.number 3
      → eqb eight.number 16 ≡ eqb first.number 16 && eqb second.number 16
      → T (not (eqb eight.number 2)) × T (not (eqb first.number 2)) × T (not (eqb second.number 2)) → AgreeExactly eight first second
  row_exactly d e f g t =
      let done = number_exactly eight.number 0 first.number 20 second.number 0 d in
      record {
        done = λ v w h k. (
          λ p. (
            all_three (done.0 (numbers p)).0 (u ∙ ap (λ (x : ℕ). upper x * 16) (values p)) no,
            all_three (done.0 (numbers p)).1 (l ∙ ap (λ (x : ℕ). lower x * 16) (values p)) (alike ∙ wraps p),
          ),
          λ p.
              all_three (done.1 (numbers p.0, numbers p.1))
              (sym (values_join k) ∙ ap₂ (λ (x y : ℕ). x + y / 16) (values p.0) (values p.1) ∙ byte_joins v h)
              (sym alike ∙ wraps p.1),
        );
        joined = values_join;
        busy = number_exactly _ _ _ _ _ _ e;
        no_such_address = number_exactly _ _ _ _ _ _ f;
        not_in_range = number_exactly _ _ _ _ _ _ g;
        never_2 = (neqb→ne _ 2 t.0, neqb→ne _ 2 t.1, neqb→ne _ 2 t.2);
      }

pub agree_given_exactly : AgreeGivenExactly
agree_given_exactly _ _ _ (Agree.Done v w) = row_exactly _ _ _ refl refl refl refl refl refl refl refl (tt, tt, tt)
agree_given_exactly _ _ _ Agree.Busy = row_exactly _ _ _ refl refl refl refl refl refl refl refl (tt, tt, tt)
agree_given_exactly _ _ _ Agree.NoSuchAddress = row_exactly _ _ _ refl refl refl refl refl refl refl refl (tt, tt, tt)
agree_given_exactly _ _ _ Agree.NotInRange = row_exactly _ _ _ refl refl refl refl refl refl refl refl (tt, tt, tt)
