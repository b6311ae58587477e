-- A rounded fraction: on which grid it lies, and how near it is.
use Prim.Native.Nat.{ℕ, zero, suc, ◌+◌, ◌-◌, ◌*◌, ◌/◌, ◌%◌, ◌^◌, ◌<◌, ◌≤◌, compare, Ordering}
use borrow.Author.Tests.{leb-true, leb-false, eqb-true, eqb-false}
use lib.Dec.{compare_is_eq, is_le}
use lib.Ieee.{binary32, nearest, round, size, units}
use lib.Ieee.Digits.{size-le, size-lt}
use lib.Ieee.Exact.{HasValue, units_val}
use lib.Ieee.Fits.{nearest-le, round_is}
use lib.Ieee.Nearest.{closest, closest_same}
use lib.Pow.{pow-add, pow-lt, pow_mono, pow_pos}
use mathlib.Core.Bool.{false}
use mathlib.Core.Logic.{◌≢◌}
use mathlib.Core.Path.{◌≡◌, ◌∙◌, ap, refl, sym}
use native.Mathlib.Nat.{div-add-mod', div-lt_iff_lt-mul, le-div_iff_mul-le, le_of_eq, le_trans, lt_of_lt_of_le, lt_of_le_of_lt, lt_of_not-le, mod-lt, mul_assoc, mul-le-mul_right, mul-lt-mul_of_pos_right, mul-pos, not-le_of_lt}
use native.Mathlib.Omega.{arith}
use Rattle.voltages.proofs.Exact.{rescaled}

-- c is at most a half away from a / b, and where it is odd less than that
abbrev Nearest : (c a b : ℕ) → Type 0
Nearest c a b = (c * b * 2 + c % 2 ≤ a * 2 + b) × (a * 2 + c % 2 ≤ c * b * 2 + b)

-- a tie goes to the even one
tie : (w b a p : ℕ) → w % 2 ≡ p → w * b * 2 + b ≡ a * 2 → Nearest (w + p) a b
tie w b a zero e h = omega arith
tie w b a (suc zero) e h = omega arith
tie w b a (suc (suc p)) e h = absurd (omega arith)

pub closest_near : (a b : ℕ) → 0 < b → Nearest (closest a b) a b
closest_near a b h = go (compare (a % b * 2) b) refl
  where
    whole : a / b * b + a % b ≡ a
    whole = div-add-mod' a b

    go : (o : Ordering) → compare (a % b * 2) b ≡ o → Nearest (nearest (a / b) o) a b
    go Ordering.lt e =
        let below : a % b * 2 ≤ b = leb-true (a % b * 2) b (ap is_le e) in
        let not_half : a % b * 2 ≢ b = eqb-false (a % b * 2) b (ap compare_is_eq e) in
        omega (arith, whole)
    go Ordering.eq e =
        let half : a % b * 2 ≡ b = eqb-true (a % b * 2) b (ap compare_is_eq e) in
        tie (a / b) b a (a / b % 2) refl (omega (arith, whole))
    go Ordering.gt e =
        let above : b < a % b * 2 = leb-false (a % b * 2) b (ap is_le e) in
        omega (arith, whole, mod-lt a h)

-- of a fraction n / d whose whole part has 24 + j binary digits, j are dropped
dropped : (m n d j : ℕ) → 0 < d → n ≡ m * 2 ^ j → 2 ^ 23 * d ≤ m → m < 2 ^ 24 * d → size (n / d) - 24 ≡ j
dropped m n d j above e low high =
    let least : 2 ^ (23 + j) * d ≤ n = omega (arith, ap (λ (z : ℕ). z * d) (pow-add 2 23 j), mul-le-mul_right (2 ^ j) low) in
    let most : n < 2 ^ (24 + j) * d = omega (arith, ap (λ (z : ℕ). z * d) (pow-add 2 24 j), mul-lt-mul_of_pos_right high (pow_pos j)) in
    let not_more : size (n / d) ≤ 24 + j = size-le (n / d) (24 + j) ((div-lt_iff_lt-mul above).1 most) in
    let not_fewer : 23 + j < size (n / d) = lt_of_not-le (λ g. not-le_of_lt (lt_of_lt_of_le (size-lt (n / d)) (pow_mono g)) ((le-div_iff_mul-le above).1 least)) in
    omega arith

-- a fraction from 2 ^ 23 to 2 ^ 24 parts of 2 ^ -i is rounded to a whole number of them
pub rounded_on : (n d i : ℕ) → 0 < d → i ≤ 149 → 2 ^ 23 * d ≤ n * 2 ^ i → n * 2 ^ i < 2 ^ 24 * d → HasValue (round binary32 false n d) false (closest (n * 2 ^ i) d) (2 ^ i)
rounded_on n d i above l low high =
    let j = 149 - i in
    let all : i + j ≡ 149 = omega arith in
    let room : 24 + j < 277 = omega arith in
    let split : 2 ^ 149 ≡ 2 ^ i * 2 ^ j = ap (λ (z : ℕ). 2 ^ z) (sym all) ∙ pow-add 2 i j in
    let smallest : n * 2 ^ 149 ≡ n * 2 ^ i * 2 ^ j = ap (λ (z : ℕ). n * z) split ∙ sym (mul_assoc n (2 ^ i) (2 ^ j)) in
    let c = closest (n * 2 ^ i) d in
    let most : c ≤ 2 ^ 24 = le_trans (nearest-le (n * 2 ^ i / d) (compare (n * 2 ^ i % d * 2) d)) ((div-lt_iff_lt-mul above).1 high) in
    let is : round binary32 false n d ≡ units binary32 false c j =
    round_is binary32 false n d
    ∙ ap (λ (z : ℕ). units binary32 false (closest (n * 2 ^ 149) (d * 2 ^ z)) z) (dropped (n * 2 ^ i) (n * 2 ^ 149) d j above smallest low high)
    ∙ ap (λ (z : ℕ). units binary32 false z j) (closest_same (n * 2 ^ 149) (d * 2 ^ j) (n * 2 ^ i) d (mul-pos above (pow_pos j)) above (ap (λ (z : ℕ). z * d) smallest ∙ omega arith)) in
    rw is
    (rescaled (units binary32 false c j) false (c * 2 ^ j) (2 ^ 149) c (2 ^ i) (pow_pos 149) (omega arith ∙ ap (λ (z : ℕ). c * z) (sym split))
    (units_val binary32 false c j (lt_of_le_of_lt (mul-le-mul_right (2 ^ j) most) (lt_of_le_of_lt (le_of_eq (sym (pow-add 2 24 j))) (pow-lt room)))))
