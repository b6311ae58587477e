-- What an answer prints, by what it is, and what its lines ask.
use Prim.Native.Nat.{ℕ, ◌≤◌}
use Rattle.std.specs.Prelude.{Ok}
use lib.Dec.{T, lit≤}
use lib.Ieee.{is_nan}
use mathlib.Core.Bool.{not}
use mathlib.Core.Path.{◌≡◌, subst⁻¹}
use Rattle.voltages.proofs.Answers.{done_told}
use Rattle.voltages.proofs.Ladder.{voltages_are_numbers}
use Rattle.voltages.specs.Answers.{answer_of, InRange}
use Rattle.voltages.specs.Voltages.{divisor_of, step_for, steps_of}
use Rattle.voltages.specs.declared.Bias.{Bias}
use Rattle.voltages.specs.declared.Bias.TheVariants.{Quarter, Fifth}
use Rattle.voltages.specs.declared.Drive.{Drive}
use Rattle.voltages.specs.declared.Steps.{Steps}
use Rattle.sheet.specs.Promises.{AllNumbers}

all_numbers : (drive : Drive) → InRange drive → AllNumbers (steps_of (step_for drive) drive.bias)
all_numbers drive range = go drive.bias (λ k h. voltages_are_numbers drive k range h)
  where
    go : (bias : Bias) → ((k : ℕ) → k ≤ divisor_of bias → T (not (is_nan (step_for drive k)))) → AllNumbers (steps_of (step_for drive) bias)
    go Quarter number = (number 1 (lit≤ tt), (number 2 (lit≤ tt), (number 3 (lit≤ tt), tt)))
    go Fifth number = (number 1 (lit≤ tt), (number 2 (lit≤ tt), (number 3 (lit≤ tt), (number 4 (lit≤ tt), tt))))

-- what the lines of an answer with steps ask
pub lines_asked : (drive : Drive) (steps : Steps) → Ok steps ≡ answer_of drive → InRange drive × AllNumbers steps
lines_asked drive steps e =
    let told = done_told drive steps e in
    (told.0, subst⁻¹ AllNumbers told.1 (all_numbers drive told.0))
