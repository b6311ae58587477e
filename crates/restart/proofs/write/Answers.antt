-- A wait and a write are two events, both known.
use Rattle.std.proofs.Common.{arith}
use Rattle.restart.proofs.Two.{two_runnable}
use Rattle.restart.proofs.write.Goals as goal

pub run_events-requires : goal.run_events-requires
run_events-requires c = rw c.to_be_bytes.ensures (two_runnable _ (omega arith) _ _ c.requires.1 (omega arith))
