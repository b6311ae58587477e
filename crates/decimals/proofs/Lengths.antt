-- How long volts are.
use Prim.Native.Nat.{ℕ, ◌+◌, ◌*◌, ◌/◌, ◌<◌, ◌≤◌}
use lib.ListN.{length, length-append}
use mathlib.Core.List.{◌++◌}
use mathlib.Core.Path.{◌≡◌}
use native.Mathlib.Omega.{arith}
use Rattle.text.proofs.Decimal.{one_digit}
use Rattle.text.specs.Text.{text_of, decimal_of}
use Rattle.decimals.specs.Decimals.{digits_in, sign_of, ten_thousandths, decimals_of, printed_volts, most_volts}
use Rattle.decimals.specs.Promises.{OfSheet}
use Rattle.decimals.specs.declared.volts.Formula.{Formula}
use Rattle.decimals.proofs.Formulas.{below_ten_volts}
use Rattle.decimals.proofs.LastDigits.{length_digits}
use Rattle.decimals.proofs.Signs.{sign_fits}

pub length_decimals : (n : ℕ) → length (decimals_of n) ≡ length (decimal_of (n / 10000)) + 5
unfolding decimals_of
length_decimals n =
    omega (arith, length-append (decimal_of (n / 10000) ++ text_of ".") (digits_in 10 4 n), length-append (decimal_of (n / 10000)) (text_of "."), length_digits 10 4 n)

pub length_volts : (f : Formula) → length (printed_volts f) ≡ length (sign_of (f.divisor * f.vdd) (f.k * f.span)) + length (decimals_of (ten_thousandths f))
unfolding printed_volts
length_volts f = length-append (sign_of (f.divisor * f.vdd) (f.k * f.span)) (decimals_of (ten_thousandths f))

pub volts_fit : (f : Formula) → OfSheet f → length (printed_volts f) ≤ most_volts
volts_fit f sheet =
    let n = ten_thousandths f in
    let few : n < 100000 = below_ten_volts f sheet in
    omega (arith, length_volts f, sign_fits (f.divisor * f.vdd) (f.k * f.span), length_decimals n, one_digit (n / 10000) (omega arith))
