-- The name is put, then the volts and the bits.
use Rattle.std.proofs.Common.{arith}
use Rattle.decimals.proofs.Lengths.{volts_fit}
use Rattle.lent.proofs.Placed.{puts_then}
use Rattle.sheet.specs.Sheet.{voltage_line}
use Rattle.sheet.proofs.Lengths.{length_bits, line_fits}
use Rattle.sheet.proofs.line.put_line.Goals as goal

pub put_volts-next-requires : goal.put_volts-next-requires
put_volts-next-requires c =
    let sheet = c.formula.ensures.1 in
    (sheet, omega (arith, c.put_text-named.ensures.next, volts_fit _ sheet))

pub put_bits-requires : goal.put_bits-requires
put_bits-requires c =
    (c.requires.2, omega (arith, c.put_text-named.ensures.next, c.put_volts-next.ensures.next, length_bits c.args.volts, volts_fit _ c.formula.ensures.1))

pub returns : goal.returns
unfolding voltage_line
returns c =
    let all = puts_then _ _ _ _ _ _ _ _ (omega arith) c.put_text-named.ensures (puts_then _ _ _ _ _ _ _ _ (omega (arith, c.put_text-named.ensures.next)) c.put_volts-next.ensures c.put_bits.ensures) in
    (rw (← c.formula.ensures.0) all, omega (arith, all.next, line_fits _ c.formula.ensures.1 c.args.name.now c.args.volts))
