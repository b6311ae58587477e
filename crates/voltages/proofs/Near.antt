-- Fifth bias is within 2 ^ -22 V of the exact value: by where the quotient lies, and the difference.
use Prim.Native.Nat.{ℕ, zero, suc, ◌+◌, ◌-◌, ◌*◌, ◌/◌, ◌%◌, ◌^◌, ◌<◌, ◌≤◌, zero-le}
use borrow.Author.Tests.{ltb-true, ltb-false, lt-ltb, le-ltb}
use lib.Dec.{T, ltb, lit<, lit≤}
use lib.Ieee.{Float, binary32, round, sub}
use lib.Ieee.Exact.{HasValue}
use lib.Ieee.Nearest.{closest}
use lib.Pow.{pow_pos}
use mathlib.Core.Bool.{Bool, true, false, cond}
use mathlib.Core.Logic.{◌⊎◌, inl, inr, ⊎_elim}
use mathlib.Core.Path.{◌≡◌, ◌∙◌, ap, refl, sym}
use native.Mathlib.Nat.{eq-or-lt_of_le, eq-zero-or-pos, mul_assoc, mul_comm, mul-le-mul, mul-le-mul_right, mul-lt-mul_of_pos_right, pow-suc, sub-zero}
use native.Mathlib.Omega.{arith}
use Rattle.voltages.specs.Answers.{has_vdd, has_span}
use Rattle.voltages.specs.Theorems.{Equals, Near, FifthNear}
use Rattle.voltages.specs.Voltages.{volts_of, step_of}
use Rattle.voltages.proofs.Exact.{difference_exact, in_range_lem, rescaled, step_is, volts_in, whole_step}
use Rattle.voltages.proofs.Operations.{difference, sub_mul}
use Rattle.voltages.proofs.Rounded.{closest_near, rounded_on}

below_or_not : (a b : ℕ) → (a < b) ⊎ (b ≤ a)
below_or_not a b = go (ltb a b) refl
  where
    go : (t : Bool) → ltb a b ≡ t → (a < b) ⊎ (b ≤ a)
    go true e = inl (ltb-true a b e)
    go false e = inr (ltb-false a b e)

-- the same value as another difference
pub equals_same : (x : Float) (a b c t a' b' : ℕ) → 0 < c → 0 < t → a * t + b' ≡ a' + b * t → Equals x a b c → Equals x a' b' (t * c)
equals_same x a b c t a' b' hc ht e v = go (ltb a b) refl v
  where
    scaled : (a b a' b' : ℕ) → a * t + b' ≡ a' + b * t → (b - a) * (t * c) ≡ (b' - a') * c
    scaled a b a' b' e = sym (mul_assoc (b - a) t c) ∙ ap (λ (z : ℕ). z * c) (sub_mul b a t ∙ omega arith)

    go : (u : Bool) → ltb a b ≡ u → HasValue x u (cond u (b - a) (a - b)) c → Equals x a' b' (t * c)
    go true test v =
        let less : a * t < b * t = mul-lt-mul_of_pos_right (ltb-true a b test) ht in
        rw (lt-ltb a' b' (omega (arith, e))) (rescaled x true (b - a) c (b' - a') (t * c) hc (scaled a b a' b' e) v)
    go false test v =
        let not_less : b * t ≤ a * t = mul-le-mul_right t (ltb-false a b test) in
        rw (le-ltb a' b' (omega (arith, e))) (rescaled x false (a - b) c (a' - b') (t * c) hc (scaled b a b' a' (omega (arith, e))) v)

-- a value that is not negative
equals_value : (x : Float) (a c : ℕ) → HasValue x false a c → Equals x a 0 c
equals_value x a c v = rw (le-ltb a 0 zero-le, sub-zero) v

-- on the grid of its last digit, or one twice as fine, a rounded fraction is within one
on_grid : (n d i : ℕ) → 0 < d → suc i ≤ 149 → 2 ^ 22 * d ≤ n * 2 ^ i → n * 2 ^ i < 2 ^ 24 * d
    → (q : ℕ) × HasValue (round binary32 false n d) false q (2 ^ suc i) × (q * d ≤ n * 2 ^ i * 2 + d) × (n * 2 ^ i * 2 ≤ q * d + d)
on_grid n d i above l low high =
    let twice : n * 2 ^ suc i ≡ n * 2 ^ i * 2 = ap (λ (z : ℕ). n * z) (pow-suc 2 i) ∙ sym (mul_assoc n (2 ^ i) 2) in
    ⊎_elim
    (λ (less : n * 2 ^ i < 2 ^ 23 * d).
    let c = closest (n * 2 ^ suc i) d in
    let near = closest_near (n * 2 ^ suc i) d above in
    (c, rounded_on n d (suc i) above l (omega arith) (omega arith), omega (arith, near), omega (arith, near)))
    (λ (from : 2 ^ 23 * d ≤ n * 2 ^ i).
    let c = closest (n * 2 ^ i) d in
    let near = closest_near (n * 2 ^ i) d above in
    let same : c * 2 ^ suc i ≡ c * 2 * 2 ^ i = ap (λ (z : ℕ). c * z) (pow-suc 2 i) ∙ omega arith in (
      c * 2,
      rescaled (round binary32 false n d) false c (2 ^ i) (c * 2) (2 ^ suc i) (pow_pos i) same (rounded_on n d i above (omega arith) from high),
      omega (arith, near),
      omega (arith, near),
    ))
    (below_or_not (n * 2 ^ i) (2 ^ 23 * d))

-- where r is even, 40 * r + 16 * m and 80 * u are apart by a multiple of 16; where it is odd, r is not at a tie
even_or_nearer : (u m r p : ℕ) → r % 2 ≡ p → r * 40 + p * 5 + m * 16 ≤ u * 80 + 25 → u * 80 + p * 5 ≤ r * 40 + m * 16 + 25 → (r * 40 + m * 16 ≤ u * 80 + 20) × (u * 80 ≤ r * 40 + m * 16 + 20)
even_or_nearer u m r zero e h g =
    let over : r / 2 * 5 + m ≤ u * 5 + 1 = omega arith in
    let under : u * 5 ≤ r / 2 * 5 + m + 1 = omega arith in
    omega arith
even_or_nearer u m r (suc p) e h g = omega arith

module _ (vdd n : ℕ) (lowest : 288 ≤ vdd) (highest : vdd ≤ 352) where
  abbrev NearStep : Float → Type 0
  NearStep x = Near x (5 * vdd) n 320

  -- a quotient from 2 on: the difference is below 4, and exact
  from_two : 640 ≤ n → n < 2560 → NearStep (sub binary32 (volts_of vdd) (round binary32 false n 320))
  from_two low high =
      let grid = on_grid n 320 21 (lit< tt) (lit≤ tt) (omega arith) (omega arith) in
      let q = grid.0 in
      let over : q * 320 ≤ n * 2 ^ 22 + 320 = omega (arith, grid.2) in
      let under : n * 2 ^ 22 ≤ q * 320 + 320 = omega (arith, grid.3) in
      let x = sub binary32 (volts_of vdd) (round binary32 false n 320) in
      let whole = 2 ^ 22 * (5 * vdd) + 2 ^ 22 * n - q * 320 in (
        whole,
        equals_same x (vdd * 2 ^ 16) q (2 ^ 22) 320 whole (2 ^ 22 * n) (lit< tt) (lit< tt) (omega arith)
            (difference_exact (volts_of vdd) (round binary32 false n 320) (vdd * 2 ^ 16) q 22 (omega arith) (omega arith) (lit≤ tt) (volts_in vdd (2 ^ 16) (omega arith)) grid.1),
        omega arith,
        omega arith,
      )

  -- a smaller one, of q parts of 2 ^ -24: the difference of d parts is rounded, to 2 ^ -22 below 4 and to 2 ^ -21 from there on
  rounded_again : (q d : ℕ) → q < 2 ^ 25 → q * 320 ≤ n * 2 ^ 24 + 320 → n * 2 ^ 24 ≤ q * 320 + 320 → d + q ≡ vdd * 2 ^ 18 → NearStep (round binary32 false d (2 ^ 24))
  rounded_again q d small over under e =
      let x = round binary32 false d (2 ^ 24) in
      ⊎_elim
      (λ (less : d < 2 ^ 26).
      let r = closest (d * 2 ^ 22) (2 ^ 24) in
      let near = closest_near (d * 2 ^ 22) (2 ^ 24) (lit< tt) in
      let r_over : r * 4 ≤ d + 2 = omega (arith, near) in
      let r_under : d ≤ r * 4 + 2 = omega (arith, near) in (
        r * 320 + 2 ^ 22 * n,
        equals_same x r 0 (2 ^ 22) 320 (r * 320 + 2 ^ 22 * n) (2 ^ 22 * n) (lit< tt) (lit< tt) (omega arith)
            (equals_value x r (2 ^ 22) (rounded_on d (2 ^ 24) 22 (lit< tt) (lit≤ tt) (omega arith) (omega arith))),
        omega arith,
        omega arith,
      ))
      (λ (from : 2 ^ 26 ≤ d).
      let r = closest (d * 2 ^ 21) (2 ^ 24) in
      let near = closest_near (d * 2 ^ 21) (2 ^ 24) (lit< tt) in
      let r_over : r * 8 + r % 2 ≤ d + 4 = omega (arith, near) in
      let r_under : d + r % 2 ≤ r * 8 + 4 = omega (arith, near) in
      let apart = even_or_nearer (vdd * 2 ^ 14) (n * 2 ^ 14) r (r % 2) refl (omega arith) (omega arith) in (
        r * 640 + 2 ^ 22 * n,
        equals_same x r 0 (2 ^ 21) 640 (r * 640 + 2 ^ 22 * n) (2 ^ 22 * n) (lit< tt) (lit< tt) (omega arith)
            (equals_value x r (2 ^ 21) (rounded_on d (2 ^ 24) 21 (lit< tt) (lit≤ tt) (omega arith) (omega arith))),
        omega (arith, apart),
        omega (arith, apart),
      ))
      (below_or_not d (2 ^ 26))

  below_two : 192 ≤ n → n < 640 → NearStep (sub binary32 (volts_of vdd) (round binary32 false n 320))
  below_two low high =
      let grid = on_grid n 320 23 (lit< tt) (lit≤ tt) (omega arith) (omega arith) in
      let q = grid.0 in
      let over : q * 320 ≤ n * 2 ^ 24 + 320 = omega (arith, grid.2) in
      let under : n * 2 ^ 24 ≤ q * 320 + 320 = omega (arith, grid.3) in
      rw (
        difference (volts_of vdd) (round binary32 false n 320) (vdd * 2 ^ 18) q (2 ^ 24) (lit< tt) (volts_in vdd (2 ^ 18) (omega arith)) grid.1,
        le-ltb (vdd * 2 ^ 18) q (omega arith),
      )
      (rounded_again q (vdd * 2 ^ 18 - q) (omega arith) over under (omega arith))

module _ (vdd span k : ℕ) (hv : T (has_vdd vdd)) (hs : T (has_span span)) (hk : k ≤ 5) where
  -- the ends of the ladder are exact
  at_end : (m : ℕ) → m ≤ 512 → k * span ≡ m * 5 → Near (step_of 5 vdd span k) (5 * vdd) (k * span) 320
  at_end m hm e = (
    2 ^ 22 * (5 * vdd),
    equals_same (step_of 5 vdd span k) vdd m 64 (5 * 2 ^ 22) (2 ^ 22 * (5 * vdd)) (2 ^ 22 * (k * span)) (lit< tt) (lit< tt) (omega (arith, e)) (whole_step 5 vdd span k (lit< tt) (lit≤ tt) hs hk hv m hm e),
    omega arith,
    omega arith,
  )

  inside : 0 < k → k < 5 → Near (step_of 5 vdd span k) (5 * vdd) (k * span) 320
  inside above below =
      let v = in_range_lem 288 352 vdd hv in
      let s = in_range_lem 192 512 span hs in
      let few : k ≤ 4 = omega arith in
      let least : 1 * 192 ≤ k * span = mul-le-mul above s.0 in
      let most : k * span ≤ 4 * 512 = mul-le-mul few s.1 in
      rw (step_is 5 vdd span k (lit< tt) (lit≤ tt) hs hk)
      (⊎_elim (λ h. below_two vdd (k * span) v.0 v.1 (omega arith) h) (λ h. from_two vdd (k * span) v.0 v.1 h (omega arith)) (below_or_not (k * span) 640))

pub fifth_near : FifthNear
fifth_near vdd span k hv hs hk =
    ⊎_elim
    (λ (e : k ≡ 0). at_end vdd span k hv hs hk 0 zero-le (ap (λ (z : ℕ). z * span) e ∙ omega arith))
    (λ (above : 0 < k).
    ⊎_elim
    (λ (e : k ≡ 5). at_end vdd span k hv hs hk span (in_range_lem 192 512 span hs).1 (ap (λ (z : ℕ). z * span) e ∙ mul_comm 5 span))
    (λ (below : k < 5). inside vdd span k hv hs hk above below)
    (eq-or-lt_of_le hk))
    (eq-zero-or-pos k)
