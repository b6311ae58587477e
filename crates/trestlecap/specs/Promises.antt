-- For the contract of `driven` alone, no rule: how many voltages a bias has.
use Rattle.std.specs.Prelude.{ℕ}
use Rattle.voltages.specs.declared.Bias.{Bias}
use Rattle.voltages.specs.declared.Bias.TheVariants.{Quarter, Fifth}

abbrev pub voltage_count : Bias → ℕ
voltage_count Quarter = 3
voltage_count Fifth = 4
