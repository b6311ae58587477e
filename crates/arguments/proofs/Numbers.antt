-- Laws of numbers: digits one by one, and what a word with other characters or too large a number comes to.
use Prim.Native.Char.{code}
use Prim.Native.Nat.{ℕ, ◌+◌, ◌*◌, ◌-◌, ◌<◌, ◌≤◌}
use Rattle.std.specs.Prelude.{Option, Some, None}
use borrow.Author.Tests.{eqb-true, eqb-false, le-leb, lt-leb}
use lib.Dec.{eqb, leb, leb→le}
use lib.ListN.{length, drop, get_or}
use lib.Seq.{drop-cons, drop-length}
use mathlib.Core.Bool.{Bool, true, false, cond, ◌&&◌, and-false}
use mathlib.Core.List.{List, [], ◌∷◌}
use mathlib.Core.Path.{◌≡◌, refl, ◌∙◌, subst⁻¹}
use native.Mathlib.Numerals.{add-one}
use native.Mathlib.Omega.{arith}
use Rattle.condition.proofs.Tests.{split, and_right}
use Rattle.text.specs.Text.{meant_by}
use Rattle.arguments.specs.Words.{all_digits, is_empty, number_in}

meant_grows : (n : ℕ) (word : List ℕ) → n ≤ meant_by n word
meant_grows n [] = omega arith
meant_grows n (character ∷ word) = omega (arith, meant_grows (n * 10 + (character - code "0")) word)

-- ---- the whole word
pub empty_word : (most : ℕ) (word : List ℕ) → eqb (length word) 0 ≡ true → None ≡ number_in most word
unfolding number_in
empty_word most [] h = refl
empty_word most (character ∷ word) h = absurd (omega (arith, eqb-true _ _ h))

no_number : (empty : Bool) (n : ℕ) → None ≡ cond empty None (cond false (Some n) None)
no_number true n = refl
no_number false n = refl

other_character : (most : ℕ) (word : List ℕ) → all_digits word ≡ false → None ≡ number_in most word
unfolding number_in
other_character most word h = rw h (no_number (is_empty word) (meant_by 0 word))

too_large : (most : ℕ) (word : List ℕ) → most < meant_by 0 word → None ≡ number_in most word
unfolding number_in
too_large most word h = rw (lt-leb (meant_by 0 word) most h, and-false (all_digits word)) (no_number (is_empty word) (meant_by 0 word))

not_empty : (word : List ℕ) → eqb (length word) 0 ≡ false → is_empty word ≡ false
not_empty [] h = absurd (eqb-false 0 0 h refl)
not_empty (character ∷ word) h = refl

whole_number : (most : ℕ) (word : List ℕ) (n : ℕ) → eqb (length word) 0 ≡ false → all_digits word ≡ true → meant_by 0 word ≡ n → n ≤ most → Some n ≡ number_in most word
unfolding number_in
whole_number most word n h d e l = rw (not_empty word h, d, e, le-leb n most l)

-- ---- one by one: the characters before i are digits, which mean n
abbrev pub Counted : (most : ℕ) (word : List ℕ) (n i : ℕ) → Type 0
Counted most word n i = (i ≤ length word) × (n ≤ most) × (all_digits word ≡ all_digits (drop i word)) × (meant_by 0 word ≡ meant_by n (drop i word))

module _ (most : ℕ) (word : List ℕ) (n i : ℕ) (so_far : Counted most word n i) where
  module _ (h : i < length word) where
    next_digit : all_digits word ≡ (leb (code "0") (get_or word i 0) && leb (get_or word i 0) (code "9")) && all_digits (drop (i + 1) word)
    unfolding all_digits
    next_digit = so_far.2 ∙ rw (add-one, drop-cons word i 0)

    next_meant : meant_by 0 word ≡ meant_by (n * 10 + (get_or word i 0 - code "0")) (drop (i + 1) word)
    next_meant = so_far.3 ∙ rw (add-one, drop-cons word i 0)

    pub no_digit : (leb (code "0") (get_or word i 0) && leb (get_or word i 0) (code "9")) ≡ false → None ≡ number_in most word
    no_digit e = other_character most word (next_digit ∙ rw e)

    pub grown_large : most < n * 10 + (get_or word i 0 - code "0") → None ≡ number_in most word
    grown_large l = too_large most word (omega (arith, next_meant, meant_grows (n * 10 + (get_or word i 0 - code "0")) (drop (i + 1) word)))

    pub counted_next : (leb (code "0") (get_or word i 0) && leb (get_or word i 0) (code "9")) ≡ true → n * 10 + (get_or word i 0 - code "0") ≤ most → Counted most word (n * 10 + (get_or word i 0 - code "0")) (i + 1)
    counted_next e m = (omega arith, m, next_digit ∙ rw e, next_meant)

  pub counted_all : eqb (length word) 0 ≡ false → i ≡ length word → Some n ≡ number_in most word
  unfolding all_digits
  counted_all h e =
      let end : drop i word ≡ [] = rw (e, drop-length) in
      whole_number most word n h (so_far.2 ∙ rw end) (so_far.3 ∙ rw end) so_far.1

-- ---- a number that is read is no more than the most
abbrev told_of : Option ℕ → ℕ
told_of (Some n) = n
told_of None = 0

told_at_most : (most : ℕ) (word : List ℕ) → told_of (number_in most word) ≤ most
unfolding number_in
told_at_most most word =
    split (λ number. told_of number ≤ most) (is_empty word) (λ t. omega arith)
    (λ t. split (λ number. told_of number ≤ most) (all_digits word && leb (meant_by 0 word) most) (λ u. leb→le _ _ (and_right (all_digits word) _ u)) (λ u. omega arith))

pub at_most : (most : ℕ) (word : List ℕ) (n : ℕ) → Some n ≡ number_in most word → n ≤ most
at_most most word n e = subst⁻¹ (λ number. told_of number ≤ most) e (told_at_most most word)
