-- The whole volts and the point are put, and then the decimals.
use Rattle.std.proofs.Common.{◌/◌, length-append, arith}
use Rattle.lent.proofs.Placed.{puts_then}
use Rattle.text.specs.Text.{text_of, decimal_of}
use Rattle.decimals.specs.Decimals.{decimals_of}
use Rattle.decimals.proofs.Lengths.{length_decimals}
use Rattle.decimals.proofs.volts.put_decimals.Goals as goal

pub put_number-next-requires : goal.put_number-next-requires
put_number-next-requires c = omega (arith, length_decimals c.args.n)

pub put_digits-requires : goal.put_digits-requires
put_digits-requires c =
    let n = c.args.n in
    (omega arith, omega arith, omega (arith, length_decimals n, c.put_number-next.ensures.next, length-append (decimal_of (n / 10000)) (text_of ".")))

pub returns : goal.returns
unfolding decimals_of
returns c = puts_then _ _ _ _ _ _ _ _ (omega arith) c.put_number-next.ensures c.put_digits.ensures
