-- The mark stands behind the digits.
use Rattle.std.proofs.Common.{arith}
use Rattle.lent.proofs.Placed.{puts_one, puts_then}
use Rattle.text.proofs.put_number.Goals as goal

pub returns : goal.returns
returns c =
    let digits = c.put_decimal-end.ensures in
    puts_then _ _ _ _ _ _ _ _ (omega arith) digits (puts_one _ _ _ (omega (arith, digits.next)))
