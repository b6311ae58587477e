-- How large the numbers of a formula are.
use Prim.Native.Nat.{ℕ, ◌+◌, ◌*◌, ◌-◌, ◌<◌, ◌≤◌}
use lib.Dec.{ltb, ltb→lt, nltb→le}
use mathlib.Core.Path.{◌≡◌}
use native.Mathlib.Nat.{div-lt_iff_lt-mul, mul-le-mul}
use native.Mathlib.Omega.{arith}
use Rattle.condition.proofs.Tests.{split}
use Rattle.decimals.specs.Decimals.{distance_of, ten_thousandths}
use Rattle.decimals.specs.Promises.{OfSheet}
use Rattle.decimals.specs.declared.volts.Formula.{Formula}

pub distance_is : (a b : ℕ) → (a - b) + (b - a) ≡ distance_of a b
distance_is a b = split (λ n. (a - b) + (b - a) ≡ n) (ltb a b) (λ t. omega (arith, ltb→lt a b t)) (λ t. omega (arith, nltb→le a b t))

distance_most : (a b most : ℕ) → a ≤ most → b ≤ most → distance_of a b ≤ most
distance_most a b most h g = split (λ n. n ≤ most) (ltb a b) (λ t. omega arith) (λ t. omega arith)

module _ (f : Formula) (sheet : OfSheet f) where
  pub from_most : f.divisor * f.vdd ≤ 5 * 352
  from_most = mul-le-mul sheet.to_five sheet.vdd_fits

  pub less_most : f.k * f.span ≤ 4 * 512
  less_most = mul-le-mul sheet.to_four_steps sheet.span_fits

  pub distance_fits : distance_of (f.divisor * f.vdd) (f.k * f.span) ≤ 2048
  distance_fits = distance_most (f.divisor * f.vdd) (f.k * f.span) 2048 (omega (arith, from_most)) less_most

  pub below_ten_volts : ten_thousandths f < 100000
  below_ten_volts =
      let four : 4 ≤ f.divisor = sheet.from_four in
      let fits : distance_of (f.divisor * f.vdd) (f.k * f.span) ≤ 2048 = distance_fits in
      let parts : 0 < 2 * (64 * f.divisor) = omega arith in
      (div-lt_iff_lt-mul parts).1 (omega arith)
