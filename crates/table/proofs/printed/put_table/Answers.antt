-- The heading is put, then the lines behind it.
use Rattle.std.proofs.Common.{arith}
use Rattle.lent.proofs.Placed.{puts_then}
use Rattle.table.specs.Table.{table_of}
use Rattle.table.proofs.printed.put_table.Goals as goal

pub returns : goal.returns
unfolding table_of
returns c = puts_then _ _ _ _ _ _ _ _ (omega arith) c.put_text-next.ensures c.put_lines.ensures
