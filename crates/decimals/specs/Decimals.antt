-- Volts with four decimals, and the last digits of a number in a base.
use Prim.Native.Char.{code}
use Rattle.std.specs.Prelude.{ℕ, zero, suc, ◌+◌, ◌-◌, ◌*◌, ◌/◌, ◌%◌, ltb, cond, List, [], ◌∷◌, ◌++◌}
use Rattle.text.specs.Text.{text_of, decimal_of}
use Rattle.decimals.specs.declared.volts.Formula.{Formula}

-- ---- the last digits of a number, so many, with zeros in front

abbrev pub digit_in : ℕ → ℕ
digit_in digit = cond (ltb digit 10) (code "0" + digit) (code "a" + (digit - 10))

unfoldable pub digits_in : (base count n : ℕ) → List ℕ
digits_in base zero n = []
digits_in base (suc count) n = digits_in base count (n / base) ++ (digit_in (n % base) ∷ [])

-- ---- volts with four decimals: "the exact value of the formula rounded to the nearest, a half away from zero, with `-` in front where it is below 0"

-- a / c to the nearest whole number, a half up
abbrev pub nearest_of : (a c : ℕ) → ℕ
nearest_of a c = (2 * a + c) / (2 * c)

abbrev pub distance_of : (a b : ℕ) → ℕ
distance_of a b = cond (ltb a b) (b - a) (a - b)

-- the exact value is divisor * VDD less k * span, in 64 * divisor parts of a volt
abbrev pub ten_thousandths : Formula → ℕ
ten_thousandths formula = nearest_of (10000 * distance_of (formula.divisor * formula.vdd) (formula.k * formula.span)) (64 * formula.divisor)

abbrev pub sign_of : (a b : ℕ) → List ℕ
sign_of a b = cond (ltb a b) (text_of "-") []

unfoldable pub decimals_of : ℕ → List ℕ
decimals_of n = (decimal_of (n / 10000) ++ text_of ".") ++ digits_in 10 4 n

unfoldable pub printed_volts : Formula → List ℕ
printed_volts formula = sign_of (formula.divisor * formula.vdd) (formula.k * formula.span) ++ decimals_of (ten_thousandths formula)

-- a sign, a digit, the point and four decimals: where the value is below ten volts
abbrev pub most_volts : ℕ
most_volts = 7
