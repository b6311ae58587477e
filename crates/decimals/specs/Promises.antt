-- Helpers of contracts, not rules of the paper: what the volts ask.
use Rattle.std.specs.Prelude.{◌≤◌}
use Rattle.decimals.specs.declared.volts.Formula.{Formula}

-- a formula of the sheet
pub record OfSheet (formula : Formula) : Type 0 where
  pub from_four : 4 ≤ formula.divisor
  pub to_five : formula.divisor ≤ 5
  pub vdd_fits : formula.vdd ≤ 352
  pub span_fits : formula.span ≤ 512
  pub to_four_steps : formula.k ≤ 4
