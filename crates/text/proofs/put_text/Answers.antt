-- One more byte is put behind those in front.
use Rattle.std.proofs.Common.{arith}
use Rattle.text.proofs.Bytes.{puts_next}
use Rattle.text.proofs.put_text.Goals as goal

pub loop-at-preserved : goal.loop-at-preserved
loop-at-preserved c = puts_next _ _ _ _ _ (omega arith) (omega arith) (omega arith) c.loop-at.invariant
