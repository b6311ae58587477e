-- What `bias` prints: a line for each voltage, or a refusal.
use Rattle.std.specs.Float.{binary32}
use Rattle.std.specs.Float.Ieee.{nan, to_bits}
use Rattle.std.specs.Prelude.{ℕ, ◌+◌, ◌*◌, Float, Result, Ok, Err, List, ◌++◌, slice_index_or}
use Rattle.decimals.specs.Decimals.{digits_in, printed_volts, most_volts}
use Rattle.decimals.specs.declared.volts.Formula.{Formula}
use Rattle.refusal.specs.Refusals.{number}
use Rattle.refusal.specs.declared.Refusal.{Refusal}
use Rattle.text.specs.Text.{text_of, refused_of}
use Rattle.voltages.specs.Answers.{answer_of}
use Rattle.voltages.specs.Voltages.{divisor_of}
use Rattle.voltages.specs.declared.Drive.{Drive}
use Rattle.voltages.specs.declared.Steps.{Steps}
use Rattle.voltages.specs.declared.Steps.TheVariants.{Quarter, Fifth}

-- ---- "One line a voltage: name, volts with four decimals, the float's bits as eight hex digits, a space between"

unfoldable pub bits_of : Float → List ℕ
bits_of volts = text_of " " ++ (digits_in 16 8 (to_bits binary32 volts) ++ text_of "\n")

-- the formula of step k
abbrev pub formula_of : Drive → (k : ℕ) → Formula
formula_of drive k = record { divisor = divisor_of drive.bias; vdd = drive.vdd; span = drive.span; k = k }

unfoldable pub voltage_line : (name : List ℕ) → Drive → (k : ℕ) → Float → List ℕ
voltage_line name drive k volts = name ++ (printed_volts (formula_of drive k) ++ bits_of volts)

-- the first three, which have other names in quarter bias than in fifth
unfoldable pub three_lines : Drive → (second third : List ℕ) (one two three : Float) → List ℕ
three_lines drive second third one two three =
    voltage_line (text_of "V1 ") drive 1 one
    ++ (voltage_line second drive 2 two
    ++ voltage_line third drive 3 three)

-- the voltage at a place; quarter bias has three, fifth four
abbrev pub volts_at : List Float → ℕ → Float
volts_at steps k = slice_index_or steps k nan

unfoldable pub voltage_lines : Drive → Steps → List ℕ
voltage_lines drive (Quarter steps) = three_lines drive (text_of "V2=V3 ") (text_of "V4 ") (volts_at steps 0) (volts_at steps 1) (volts_at steps 2)
voltage_lines drive (Fifth steps) =
    three_lines drive (text_of "V2 ") (text_of "V3 ") (volts_at steps 0) (volts_at steps 1) (volts_at steps 2) ++ voltage_line (text_of "V4 ") drive 4 (volts_at steps 3)

-- "`refused 21` or `refused 22` alone on a line for those"
unfoldable pub printed_for : Drive → Result Steps Refusal → List ℕ
printed_for drive (Ok steps) = voltage_lines drive steps
printed_for drive (Err refusal) = refused_of (number refusal)

unfoldable pub sheet_of : Drive → List ℕ
sheet_of drive = printed_for drive (answer_of drive)

-- ---- how long it can be

-- behind a name: the volts, and eight digits with a byte before and behind them
abbrev pub most_behind : ℕ
most_behind = most_volts + 10

-- the four lines of fifth bias, each name with its space; in quarter bias a name is longer, and there are three
abbrev pub most_sheet : ℕ
most_sheet = 4 * (3 + most_behind)
