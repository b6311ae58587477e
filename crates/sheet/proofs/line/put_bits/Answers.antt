-- The space is put, the digits behind it, and then the end of the line.
use Rattle.std.proofs.Common.{arith}
use lib.Ieee.{binary32, to_bits}
use Rattle.decimals.proofs.LastDigits.{length_digits}
use Rattle.lent.proofs.Placed.{puts_then}
use Rattle.sheet.specs.Sheet.{bits_of}
use Rattle.sheet.proofs.Lengths.{length_bits}
use Rattle.sheet.proofs.line.put_bits.Goals as goal

pub put_text-next-requires : goal.put_text-next-requires
put_text-next-requires c = omega (arith, length_bits c.args.volts)

pub put_digits-end-requires : goal.put_digits-end-requires
put_digits-end-requires c = (omega arith, omega arith, omega (arith, length_bits c.args.volts, c.put_text-next.ensures.next))

pub put_text-requires : goal.put_text-requires
put_text-requires c =
    let volts = c.args.volts in
    omega (arith, length_bits volts, c.put_text-next.ensures.next, c.put_digits-end.ensures.next, length_digits 16 8 (to_bits binary32 volts))

pub returns : goal.returns
unfolding bits_of
returns c =
    puts_then _ _ _ _ _ _ _ _ (omega arith) c.put_text-next.ensures
    (puts_then _ _ _ _ _ _ _ _ (omega (arith, length_bits c.args.volts, c.put_text-next.ensures.next)) c.put_digits-end.ensures c.put_text.ensures)
