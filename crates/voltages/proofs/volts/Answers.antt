-- 64.0 is the whole number 64.
use Rattle.std.proofs.Common.{refl}
use lib.Ieee.{of_bits, of_int}
use Rattle.voltages.proofs.volts.Goals as goal

pub returns : goal.returns
unfolding of_bits of_int
returns c = refl
