-- The number stands behind the name.
use Rattle.std.proofs.Common.{arith}
use Rattle.lent.proofs.Placed.{puts_then}
use Rattle.text.proofs.put_named.Goals as goal

pub returns : goal.returns
returns c = puts_then _ _ _ _ _ _ _ _ (omega arith) c.put_text-next.ensures c.put_number.ensures
