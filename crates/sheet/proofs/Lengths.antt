-- How long a line is.
use Prim.Native.Nat.{ℕ, ◌+◌, ◌≤◌}
use lib.Ieee.{Float, binary32, to_bits}
use lib.ListN.{length, length-append}
use mathlib.Core.List.{List, ◌++◌}
use mathlib.Core.Path.{◌≡◌}
use native.Mathlib.Omega.{arith}
use Rattle.decimals.proofs.LastDigits.{length_digits}
use Rattle.decimals.proofs.Lengths.{volts_fit}
use Rattle.decimals.specs.Decimals.{digits_in, printed_volts}
use Rattle.decimals.specs.Promises.{OfSheet}
use Rattle.decimals.specs.declared.volts.Formula.{Formula}
use Rattle.text.specs.Text.{text_of}
use Rattle.voltages.proofs.Exact.{in_range_lem}
use Rattle.voltages.specs.Answers.{InRange}
use Rattle.voltages.specs.Voltages.{divisor_of}
use Rattle.voltages.specs.declared.Bias.{Bias}
use Rattle.voltages.specs.declared.Bias.TheVariants.{Quarter, Fifth}
use Rattle.voltages.specs.declared.Drive.{Drive}
use Rattle.sheet.specs.Sheet.{bits_of, formula_of, most_behind}

pub length_bits : (volts : Float) → length (bits_of volts) ≡ 10
unfolding bits_of
length_bits volts = omega (arith, length-append (digits_in 16 8 (to_bits binary32 volts)) (text_of "\n"), length_digits 16 8 (to_bits binary32 volts))

four_or_five : (bias : Bias) → (4 ≤ divisor_of bias) × (divisor_of bias ≤ 5)
four_or_five Quarter = (omega arith, omega arith)
four_or_five Fifth = (omega arith, omega arith)

pub of_sheet : (drive : Drive) (k : ℕ) → InRange drive → k ≤ 4 → OfSheet (formula_of drive k)
of_sheet drive k range few =
    let divisor = four_or_five drive.bias in
    record {
      from_four = divisor.0;
      to_five = divisor.1;
      vdd_fits = (in_range_lem 288 352 drive.vdd range.0).1;
      span_fits = (in_range_lem 192 512 drive.span range.1).1;
      to_four_steps = few;
    }

pub line_fits : (formula : Formula) → OfSheet formula → (name : List ℕ) (volts : Float) → length (name ++ (printed_volts formula ++ bits_of volts)) ≤ length name + most_behind
line_fits formula sheet name volts =
    omega (arith, length-append name (printed_volts formula ++ bits_of volts), length-append (printed_volts formula) (bits_of volts), length_bits volts, volts_fit formula sheet)
