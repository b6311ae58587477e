-- A number is put, and those behind it are missing.
use Rattle.std.proofs.Common.{arith}
use Rattle.table.proofs.Columns.{spaced_turn}
use Rattle.table.proofs.line.put_spaced.Goals as goal

pub loop-number-preserved : goal.loop-number-preserved
loop-number-preserved c = (spaced_turn _ _ _ _ _ _ c.loop-number-test.true (omega arith) c.loop-number.invariant.0 _ _ c.put_number-next.ensures, omega arith)
