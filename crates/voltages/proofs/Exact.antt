-- Quarter bias is exact, since nothing but powers of two divides: each operation's result fits its 24 binary digits.
use Prim.Native.Nat.{ℕ, ◌+◌, ◌-◌, ◌*◌, ◌^◌, ◌<◌, ◌≤◌, zero-le}
use lib.Dec.{T, ltb, leb, leb→le, lit<, lit≤}
use lib.Ieee.{Float, nan, inf, fin, binary32, of_int, mul, sub, round, up, down}
use lib.Ieee.Back.{round_whole}
use lib.Ieee.Exact.{HasValue, round_exact}
use lib.Ieee.Scale.{round_same}
use lib.Pow.{pow-add, pow_mono, pow_pos, shl_lt}
use mathlib.Core.Bool.{Bool, true, false, cond}
use mathlib.Core.Path.{◌≡◌, ◌∙◌, ap, sym}
use native.Mathlib.Nat.{eq_of_mul-eq-mul_right, lt_of_lt_of_le, mul_assoc, mul_comm, le_refl, mul-le-mul, mul-pos, mul_right_comm}
use native.Mathlib.Omega.{arith}
use Rattle.condition.proofs.Tests.{and_left, and_right}
use Rattle.voltages.specs.Answers.{is_within, has_vdd, has_span}
use Rattle.voltages.specs.Theorems.{Equals, QuarterExact, LadderEnds}
use Rattle.voltages.specs.Voltages.{whole_of, volts_of, step_of, divisor_of}
use Rattle.voltages.specs.declared.Bias.{Bias}
use Rattle.voltages.specs.declared.Bias.TheVariants.{Quarter, Fifth}
use Rattle.voltages.proofs.Operations.{product, quotient, difference}

-- a fraction of 24 binary digits over a power of two is rounded to itself
exact : (s : Bool) (n j : ℕ) → n < 2 ^ 24 → j ≤ 149 → HasValue (round binary32 s n (2 ^ j)) s n (2 ^ j)
exact s n j h l =
    let i = 149 - j in
    let all : i + j ≡ 149 = omega arith in
    let fine : 24 + i ≤ 277 = omega arith in
    round_exact binary32 s n (2 ^ j) n i (pow_pos j) h (lt_of_lt_of_le (shl_lt 24 i h) (pow_mono fine))
    (ap (λ (z : ℕ). n * 2 ^ z) (sym all) ∙ ap (λ (z : ℕ). n * z) (pow-add 2 i j) ∙ sym (mul_assoc n (2 ^ i) (2 ^ j)))

-- the same value as another fraction
pub rescaled : (x : Float) (s : Bool) (a c b d : ℕ) → 0 < c → a * d ≡ b * c → HasValue x s a c → HasValue x s b d
rescaled nan s a c b d h e v = v
rescaled (inf t) s a c b d h e v = v
rescaled (fin t m e) s a c b d h same v = (
  v.0,
  eq_of_mul-eq-mul_right c h (m * up e * d) (b * down e)
      (mul_right_comm (m * up e) d c
      ∙ ap (λ (z : ℕ). z * d) v.1
      ∙ mul_right_comm a (down e) d
      ∙ ap (λ (z : ℕ). z * down e) same
      ∙ mul_right_comm b c (down e)),
)

pub difference_exact : (x y : Float) (a b j : ℕ) → a < b + 2 ^ 24 → b < a + 2 ^ 24 → j ≤ 149 → HasValue x false a (2 ^ j) → HasValue y false b (2 ^ j) → Equals (sub binary32 x y) a b (2 ^ j)
difference_exact x y a b j ha hb l v w = rw (difference x y a b (2 ^ j) (pow_pos j) v w) (rounded (ltb a b))
  where
    rounded : (t : Bool) → HasValue (cond t (round binary32 true (b - a) (2 ^ j)) (round binary32 false (a - b) (2 ^ j))) t (cond t (b - a) (a - b)) (2 ^ j)
    rounded true = exact true (b - a) j (omega arith) l
    rounded false = exact false (a - b) j (omega arith) l

whole_value : (n : ℕ) → n < 2 ^ 24 → HasValue (whole_of n) false n 1
unfolding of_int
whole_value n h = round_whole binary32 false n (omega arith)

volts_value : (n : ℕ) → n < 2 ^ 24 → HasValue (volts_of n) false n 64
volts_value n h = rw (quotient (whole_of n) (whole_of 64) n 1 64 (lit< tt) (lit< tt) (whole_value n h) (whole_value 64 (lit< tt))) (exact false n 6 h (lit≤ tt))

-- in parts t times as fine
pub volts_in : (n t : ℕ) → n < 2 ^ 24 → HasValue (volts_of n) false (n * t) (64 * t)
volts_in n t h = rescaled (volts_of n) false n 64 (n * t) (64 * t) (lit< tt) (omega arith) (volts_value n h)

pub in_range_lem : (least most n : ℕ) → T (is_within least most n) → (least ≤ n) × (n ≤ most)
in_range_lem least most n h = (leb→le least n (and_left (leb least n) (leb n most) h), leb→le n most (and_right (leb least n) (leb n most) h))

pub divisor_range : (bias : Bias) → (0 < divisor_of bias) × (divisor_of bias ≤ 5)
divisor_range Quarter = (lit< tt, lit≤ tt)
divisor_range Fifth = (lit< tt, lit≤ tt)

module _ (divisor vdd span k : ℕ) (above : 0 < divisor) (small : divisor ≤ 5) (hs : T (has_span span)) (hk : k ≤ divisor) where
  -- the product is exact, so the quotient is rounded from the exact one
  pub step_is : step_of divisor vdd span k ≡ sub binary32 (volts_of vdd) (round binary32 false (k * span) (64 * divisor))
  step_is =
      let s = in_range_lem 192 512 span hs in
      let few : k ≤ 5 = omega arith in
      let n : k * span ≤ 5 * 512 = mul-le-mul few s.1 in
      let p = mul binary32 (whole_of k) (volts_of span) in
      let p_is : HasValue p false (k * span) 64 =
      rw (product (whole_of k) (volts_of span) k span 1 64 (lit< tt) (lit< tt) (whole_value k (omega arith)) (volts_value span (omega (arith, s)))) (exact false (k * span) 6 (omega arith) (lit≤ tt)) in
      ap (sub binary32 (volts_of vdd)) (quotient p (whole_of divisor) (k * span) 64 divisor (lit< tt) above p_is (whole_value divisor (omega arith)))

  -- where the divisor divides the product, the step is exact
  pub whole_step : T (has_vdd vdd) → (m : ℕ) → m ≤ 512 → k * span ≡ m * divisor → Equals (step_of divisor vdd span k) vdd m 64
  whole_step hv m hm e =
      let v = in_range_lem 288 352 vdd hv in
      rw (step_is, round_same binary32 false (k * span) (64 * divisor) m 64 (mul-pos (lit< tt) above) (lit< tt) (omega (arith, e)))
      (difference_exact (volts_of vdd) (round binary32 false m 64) vdd m 6 (omega (arith, v)) (omega arith) (lit≤ tt) (volts_value vdd (omega (arith, v))) (exact false m 6 (omega arith) (lit≤ tt)))

pub quarter_exact : QuarterExact
quarter_exact vdd span k hv hs hk =
    let v = in_range_lem 288 352 vdd hv in
    let n : k * span ≤ 4 * 512 = mul-le-mul hk (in_range_lem 192 512 span hs).1 in
    rw (step_is 4 vdd span k (lit< tt) (lit≤ tt) hs hk, mul_comm 4 vdd)
    (difference_exact (volts_of vdd) (round binary32 false (k * span) 256) (vdd * 4) (k * span) 8 (omega (arith, v)) (omega arith) (lit≤ tt)
    (volts_in vdd 4 (omega (arith, v)))
    (exact false (k * span) 8 (omega arith) (lit≤ tt)))

pub ladder_ends : LadderEnds
ladder_ends drive range =
    let divisor = divisor_of drive.bias in
    let d = divisor_range drive.bias in
    let span = drive.span in (
      whole_step divisor drive.vdd span 0 d.0 d.1 range.1 zero-le range.0 0 zero-le (omega arith),
      whole_step divisor drive.vdd span divisor d.0 d.1 range.1 (le_refl divisor) range.0 span (in_range_lem 192 512 span range.1).1 (mul_comm divisor span),
    )
