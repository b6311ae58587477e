-- Laws of digits that are put from the last to the first.
use Prim.Native.Nat.{ℕ, zero, suc, ◌+◌, ◌-◌, ◌/◌, ◌%◌, ◌≤◌, ◌<◌}
use lib.ListN.{length, set, length-append}
use mathlib.Core.List.{List, [], ◌∷◌}
use mathlib.Core.Path.{◌≡◌, refl, sym, ap, ◌∙◌}
use native.Mathlib.Omega.{arith}
use Rattle.lent.proofs.Placed.{put_before, put_none}
use Rattle.lent.specs.Put.{put_at, Puts}
use Rattle.decimals.specs.Decimals.{digit_in, digits_in}

pub length_digits : (base count n : ℕ) → length (digits_in base count n) ≡ count
unfolding digits_in
length_digits base zero n = refl
length_digits base (suc count) n =
    omega (arith, length-append (digits_in base count (n / base)) (digit_in (n % base) ∷ []), length_digits base count (n / base))

before_last : (base place size n : ℕ) (out : List ℕ) → place + size < length out
    → put_at place (digits_in base size (n / base)) (set out (place + size) (digit_in (n % base))) ≡ put_at place (digits_in base (suc size) n) out
unfolding digits_in
before_last base place size n out room =
    let first = digits_in base size (n / base) in
    let counted : length first ≡ size = length_digits base size (n / base) in
    ap (λ (k : ℕ). put_at place first (set out (place + k) (digit_in (n % base)))) (sym counted)
    ∙ put_before place first (digit_in (n % base)) out (omega arith)

pub last_digit_put : (base place last n : ℕ) (out : List ℕ) → place < last → last ≤ length out
    → put_at place (digits_in base (last - 1 - place) (n / base)) (set out (last - 1) (digit_in (n % base))) ≡ put_at place (digits_in base (last - place) n) out
last_digit_put base place last n out h room =
    let size = last - 1 - place in
    let here : last - 1 ≡ place + size = omega arith in
    let one_more : suc size ≡ last - place = omega arith in
    ap (λ (at : ℕ). put_at place (digits_in base size (n / base)) (set out at (digit_in (n % base)))) here
    ∙ before_last base place size n out (omega arith)
    ∙ ap (λ (count : ℕ). put_at place (digits_in base count n) out) one_more

pub no_digits_left : (base count n place last rest : ℕ) (out now : List ℕ) → last ≤ place
    → put_at place (digits_in base (last - place) rest) now ≡ put_at place (digits_in base count n) out
    → Puts (digits_in base count n) place out (place + count) now
unfolding digits_in
no_digits_left base count n place last rest out now h e =
    let none : last - place ≡ 0 = omega arith in
    record {
      next = ap (λ (k : ℕ). place + k) (sym (length_digits base count n));
      buffer = sym (put_none place now) ∙ ap (λ (k : ℕ). put_at place (digits_in base k rest) now) (sym none) ∙ e;
    }
