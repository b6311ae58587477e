-- A number of a byte has at most three digits.
use Rattle.std.proofs.Common.{arith}
use Rattle.text.proofs.Decimal.{digits_below}
use Rattle.text.proofs.put_refused.Goals as goal

pub put_named-requires : goal.put_named-requires
put_named-requires c = omega (arith, digits_below 2 c.from.result (omega arith))
