-- The invariant: the digits of the rest are missing.
use Rattle.std.proofs.Common.{◌+◌}
use Rattle.text.proofs.Decimal.{Missing}
use Rattle.text.proofs.put_decimal.Given as goal

abbrev pub invariant-loop-at : goal.invariant-loop-at
invariant-loop-at l = Missing l.n l.place l.fn.out (l.place + l.at) l.rest l.out
