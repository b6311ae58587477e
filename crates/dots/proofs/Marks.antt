-- Laws of the marked digit: on a line no two digits have the same display address.
use Prim.Native.Nat.{ℕ, ◌+◌, ◌-◌, ◌/◌, ◌%◌, ◌<◌, ◌≤◌}
use borrow.Author.Tests.{eq-eqb, ne_eqb, eqb-true, eqb-false}
use lib.Dec.{T, eqb}
use mathlib.Core.Bool.{Bool, true, false}
use mathlib.Core.Path.{◌≡◌, refl, ap, subst, sym, ◌∙◌}
use native.Mathlib.Omega.{arith}
use Rattle.counters.proofs.Laws.{address_comes_back, cell_comes_back, address_exists}
use Rattle.counters.specs.Address.{display, cell, has_display, cell_of, address_of}
use Rattle.counters.specs.declared.LineMode.{LineMode}
use Rattle.counters.specs.declared.LineMode.TheVariants.{One, Two}
use Rattle.counters.specs.declared.address.Cell.{Cell}
use Rattle.counters.specs.declared.address.DisplayAddress.{DisplayAddress}
use Rattle.counters.specs.declared.shift.Shift.{Shift}
use Rattle.size.specs.Size.{lines_of, most_digits}
use Rattle.dots.specs.Digit.{shown_on}

shown_small : (lines : LineMode) (s : Shift) (line d : ℕ) → line < lines_of lines → (shown_on lines s line d).0 < 80
unfolding lines_of shown_on
shown_small One s line d h = omega arith
shown_small Two s line d h = omega arith

shown_digit : (lines : LineMode) (s : Shift) (line d e : ℕ) → d < most_digits lines → e < most_digits lines
    → (shown_on lines s line d).0 ≡ (shown_on lines s line e).0 → d ≡ e
unfolding most_digits shown_on
shown_digit One s line d e hd he h = omega arith
shown_digit Two s line d e hd he h = omega arith

one_address : (lines : LineMode) (s : Shift) (line d e : ℕ) → line < lines_of lines → d < most_digits lines → e < most_digits lines
    → (address_of lines (shown_on lines s line d)).0 ≡ (address_of lines (shown_on lines s line e)).0 → d ≡ e
one_address lines s line d e hl hd he h =
    shown_digit lines s line d e hd he
    (ap (λ (c : Cell). c.0)
    (sym (cell_comes_back lines (shown_on lines s line d) (shown_small lines s line d hl))
    ∙ ap (λ (n : ℕ). cell_of lines (display n)) h
    ∙ cell_comes_back lines (shown_on lines s line e) (shown_small lines s line e hl)))

-- ---- the digit that shows a cell
shown_line : (lines : LineMode) (s : Shift) (line d : ℕ) → lines ≡ Two → (shown_on lines s line d).0 / 40 ≡ line
unfolding shown_on
shown_line lines s line d two = rw two (omega arith)

pub digit_one : (lines : LineMode) (s : Shift) (line m : ℕ) → lines ≡ One → s.0 < most_digits lines → m < 80
    → ((m + 80 - s.0) % 80 < most_digits lines) × ((shown_on lines s line ((m + 80 - s.0) % 80)).0 ≡ m)
unfolding most_digits shown_on
digit_one lines s line m one h l =
    let small : s.0 < 80 = rw one at h in
    rw one (omega arith, omega arith)

pub digit_two : (lines : LineMode) (s : Shift) (line m : ℕ) → lines ≡ Two → s.0 < most_digits lines → m / 40 ≡ line
    → ((m + 40 - s.0) % 40 < most_digits lines) × ((shown_on lines s line ((m + 40 - s.0) % 40)).0 ≡ m)
unfolding most_digits shown_on
digit_two lines s line m two h l =
    let small : s.0 < 40 = rw two at h in
    rw two (omega arith, omega arith)

-- ---- the digit that is found
same_test_from : (t : Bool) (a b x y : ℕ) → (a ≡ b → x ≡ y) → (x ≡ y → a ≡ b) → eqb a b ≡ t → t ≡ eqb x y
same_test_from true a b x y f g e = sym (eq-eqb x y (f (eqb-true a b e)))
same_test_from false a b x y f g e = sym (ne_eqb x y (λ h. eqb-false a b e (g h)))

same_test : (a b x y : ℕ) → (a ≡ b → x ≡ y) → (x ≡ y → a ≡ b) → eqb a b ≡ eqb x y
same_test a b x y f g = same_test_from (eqb a b) a b x y f g refl

module _ (lines : LineMode) (s : Shift) (line digits n : ℕ) where
  address_at : ℕ → ℕ
  address_at d = (address_of lines (shown_on lines s line d)).0

  marked_here : (k : ℕ) → line < lines_of lines → digits ≤ most_digits lines → k < most_digits lines → (address_of lines (shown_on lines s line k)).0 ≡ n
      → (d : ℕ) → d < digits → eqb d k ≡ eqb (address_of lines (shown_on lines s line d)).0 n
  unfolding address_at
  marked_here k hl hm hk h d hd =
      same_test d k _ _ (λ e. ap address_at e ∙ h) (λ e. one_address lines s line d k hl (omega arith) hk (e ∙ sym h))

  marked_nowhere : ((d : ℕ) → d < digits → (address_of lines (shown_on lines s line d)).0 ≡ n → ⊥)
      → (d : ℕ) → d < digits → eqb d digits ≡ eqb (address_of lines (shown_on lines s line d)).0 n
  marked_nowhere h d hd = ne_eqb d digits (λ e. omega arith) ∙ sym (ne_eqb _ _ (h d hd))

  -- an address that does not exist marks no digit
  pub marked_none : line < lines_of lines → has_display lines (display n) ≡ false
      → (d : ℕ) → d < digits → eqb d digits ≡ eqb (address_of lines (shown_on lines s line d)).0 n
  marked_none hl none =
      marked_nowhere
      (λ d _ e. subst T (ap (λ (m : ℕ). has_display lines (display m)) e ∙ none) (address_exists lines (shown_on lines s line d) (shown_small lines s line d hl)))

  module _ (at : Cell) (found : at ≡ cell_of lines (display n)) where
    -- one that exists marks the digit that shows its cell
    pub marked_cell : (k : ℕ) → line < lines_of lines → digits ≤ most_digits lines → T (has_display lines (display n)) → (k < most_digits lines) × ((shown_on lines s line k).0 ≡ at.0)
        → (d : ℕ) → d < digits → eqb d k ≡ eqb (address_of lines (shown_on lines s line d)).0 n
    marked_cell k hl hm t shown =
        marked_here k hl hm shown.0
        (ap (λ (m : ℕ). (address_of lines (cell m)).0) shown.1
        ∙ ap (λ (c : Cell). (address_of lines c).0) found
        ∙ ap (λ (a : DisplayAddress). a.0) (address_comes_back lines (display n) t))

    -- and none of the other line
    pub marked_elsewhere : line < lines_of lines → lines ≡ Two → (at.0 / 40 ≡ line → ⊥)
        → (d : ℕ) → d < digits → eqb d digits ≡ eqb (address_of lines (shown_on lines s line d)).0 n
    marked_elsewhere hl two other =
        marked_nowhere
        (λ d _ e. other
        (ap (λ (c : Cell). c.0 / 40)
        (found
        ∙ ap (λ (m : ℕ). cell_of lines (display m)) (sym e)
        ∙ cell_comes_back lines (shown_on lines s line d) (shown_small lines s line d hl))
        ∙ shown_line lines s line d two))
