-- Helpers of contracts, not rules of the paper: what the lines ask.
use Rattle.std.specs.Float.Ieee.{is_nan}
use Rattle.std.specs.Prelude.{ℕ, ◌+◌, ◌*◌, T, Float, not, List, [], ◌∷◌}
use Rattle.voltages.specs.declared.Steps.{Steps}
use Rattle.voltages.specs.declared.Steps.TheVariants.{Quarter, Fifth}
use Rattle.sheet.specs.Sheet.{most_behind}

-- every voltage is a number
abbrev pub Numbers : List Float → Type 0
Numbers [] = Unit {0}
Numbers (volts ∷ more) = T (not (is_nan volts)) × Numbers more

abbrev pub AllNumbers : Steps → Type 0
AllNumbers (Quarter steps) = Numbers steps
AllNumbers (Fifth steps) = Numbers steps

-- three lines, by the lengths of the names that are not V1
abbrev pub most_three : (second third : ℕ) → ℕ
most_three second third = 3 + second + third + 3 * most_behind
