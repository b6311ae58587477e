-- Each step is a number, and below the one before: it is near enough to the exact value.
use Prim.Native.Nat.{ℕ, suc, ◌+◌, ◌-◌, ◌*◌, ◌^◌, ◌<◌, ◌≤◌}
use borrow.Author.Tests.{ltb-true, ltb-false}
use lib.Dec.{T, ltb, lt→ltb, lit<}
use lib.Ieee.{Float, nan, inf, fin, below, is_nan, lt}
use lib.Ieee.Exact.{HasValue}
use mathlib.Core.Bool.{Bool, true, false, cond, not}
use mathlib.Core.Path.{◌≡◌, refl}
use native.Mathlib.Nat.{mul-pos}
use native.Mathlib.Omega.{arith}
use Rattle.voltages.specs.Answers.{has_vdd, has_span}
use Rattle.voltages.specs.Theorems.{Equals, Near, VoltagesAreNumbers, LadderFalls}
use Rattle.voltages.specs.Voltages.{step_of, step_for, divisor_of}
use Rattle.voltages.specs.declared.Bias.{Bias}
use Rattle.voltages.specs.declared.Bias.TheVariants.{Quarter, Fifth}
use Rattle.voltages.proofs.Exact.{divisor_range, in_range_lem, quarter_exact}
use Rattle.voltages.proofs.Near.{equals_same, fifth_near}
use Rattle.voltages.proofs.Operations.{lt_of_values}

step_near : (vdd span k : ℕ) (bias : Bias) → T (has_vdd vdd) → T (has_span span) → k ≤ divisor_of bias
    → Near (step_of (divisor_of bias) vdd span k) (divisor_of bias * vdd) (k * span) (64 * divisor_of bias)
step_near vdd span k Quarter hv hs hk = (
  2 ^ 22 * (4 * vdd),
  equals_same (step_of 4 vdd span k) (4 * vdd) (k * span) 256 (2 ^ 22) (2 ^ 22 * (4 * vdd)) (2 ^ 22 * (k * span)) (lit< tt) (lit< tt) (omega arith) (quarter_exact vdd span k hv hs hk),
  omega arith,
  omega arith,
)
step_near vdd span k Fifth hv hs hk = fifth_near vdd span k hv hs hk

-- what has a value is a number
number : (x : Float) (s : Bool) (a c : ℕ) → HasValue x s a c → T (not (is_nan x))
unfolding is_nan
number nan s a c v = absurd v
number (inf t) s a c v = tt
number (fin t m e) s a c v = tt

pub voltages_are_numbers : VoltagesAreNumbers
voltages_are_numbers drive k range hk = number (step_for drive k) _ _ _ (step_near drive.vdd drive.span k drive.bias range.0 range.1 hk).1

-- the order of two values is that of their differences
lt_of_equals : (x y : Float) (a b a' b' c : ℕ) → 0 < c → Equals x a b c → Equals y a' b' c → a + b' < a' + b → T (lt x y)
lt_of_equals x y a b a' b' c above v w h =
    lt_of_values x y (ltb a b) (ltb a' b') (cond (ltb a b) (b - a) (a - b)) (cond (ltb a' b') (b' - a') (a' - b')) c above v w
    (go (ltb a b) refl (ltb a' b') refl)
  where
    go : (s : Bool) → ltb a b ≡ s → (t : Bool) → ltb a' b' ≡ t → T (below s (cond s (b - a) (a - b)) t (cond t (b' - a') (a' - b')))
    go true p true q = lt→ltb (b' - a') (b - a) (omega (arith, h, ltb-true a b p, ltb-true a' b' q))
    go true p false q = lt→ltb 0 (b - a + (a' - b')) (omega (arith, ltb-true a b p))
    go false p true q = absurd (omega (arith, h, ltb-false a b p, ltb-true a' b' q))
    go false p false q = lt→ltb (a - b) (a' - b') (omega (arith, h, ltb-false a b p, ltb-false a' b' q))

pub ladder_falls : LadderFalls
ladder_falls drive k range hk =
    let vdd = drive.vdd in
    let span = drive.span in
    let d = divisor_of drive.bias in
    let divisor = divisor_range drive.bias in
    let lower = step_near vdd span (suc k) drive.bias range.0 range.1 hk in
    let upper = step_near vdd span k drive.bias range.0 range.1 (omega arith) in
    lt_of_equals (step_for drive (suc k)) (step_for drive k) lower.0 (2 ^ 22 * (suc k * span)) upper.0 (2 ^ 22 * (k * span)) (2 ^ 22 * (64 * d)) (mul-pos (lit< tt) (mul-pos (lit< tt) divisor.0)) lower.1 upper.1
    (omega (arith, lower.3, upper.2, divisor.1, (in_range_lem 192 512 span range.1).0))
