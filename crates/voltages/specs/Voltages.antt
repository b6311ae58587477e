-- 02, "Bias sheet for the repair bench": the drive voltages by the formulas of the sheet.
use Rattle.std.specs.Float.{binary32}
use Rattle.std.specs.Float.Ieee.{of_int, sub, mul, div}
use Rattle.std.specs.Prelude.{ℕ, Bool, true, false, Float, pos, [], ◌∷◌, ◌≡◌}
use Rattle.voltages.specs.declared.Bias.{Bias}
use Rattle.voltages.specs.declared.Bias.TheVariants.{Quarter, Fifth}
use Rattle.voltages.specs.declared.Drive.{Drive}
use Rattle.voltages.specs.declared.Steps.{Steps}
use Rattle.voltages.specs.declared.Steps.TheVariants.{Quarter as quarter_of, Fifth as fifth_of}

-- a whole number as a 32-bit float
abbrev pub whole_of : ℕ → Float
whole_of n = of_int binary32 (pos n)

-- "whole 64ths of a volt", in volts
abbrev pub volts_of : ℕ → Float
volts_of n = div binary32 (whole_of n) (whole_of 64)

-- "Step k is VDD minus k times the span divided by 4 or by 5": "product, quotient and difference each rounded once, in that order"
abbrev pub step_of : (divisor vdd span k : ℕ) → Float
step_of divisor vdd span k = sub binary32 (volts_of vdd) (div binary32 (mul binary32 (whole_of k) (volts_of span)) (whole_of divisor))

abbrev pub bias_of : (fifth : Bool) → Bias
bias_of true = Fifth
bias_of false = Quarter

-- what `From` promises
abbrev pub is_bias_of : (fifth : Bool) → Bias → Type 0
is_bias_of fifth bias = bias ≡ bias_of fifth

abbrev pub divisor_of : Bias → ℕ
divisor_of Quarter = 4
divisor_of Fifth = 5

abbrev pub drive_of : (vdd span : ℕ) → Bias → Drive
drive_of vdd span bias = record { vdd = vdd; span = span; bias = bias }

-- the step by what is asked for
abbrev pub step_for : Drive → (k : ℕ) → Float
step_for drive k = step_of (divisor_of drive.bias) drive.vdd drive.span k

-- "either the three voltages of quarter bias or the four of fifth bias"; "quarter bias gives V1, V2 = V3, V4"
abbrev pub steps_of : (step : ℕ → Float) → Bias → Steps
steps_of step Quarter = quarter_of (step 1 ∷ step 2 ∷ step 3 ∷ [])
steps_of step Fifth = fifth_of (step 1 ∷ step 2 ∷ step 3 ∷ step 4 ∷ [])
