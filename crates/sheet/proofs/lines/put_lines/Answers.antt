-- Three lines are put for quarter bias, and one more for fifth.
use Rattle.std.proofs.Common.{arith}
use Rattle.lent.proofs.Placed.{puts_then}
use Rattle.sheet.specs.Sheet.{voltage_lines}
use Rattle.sheet.proofs.lines.put_lines.Goals as goal

pub returns-in-Quarter : goal.returns-in-Quarter
unfolding voltage_lines
returns-in-Quarter c = rw c.in-Quarter.is c.put_three.ensures.0

pub returns-in-Fifth : goal.returns-in-Fifth
unfolding voltage_lines
returns-in-Fifth c = rw c.in-Fifth.is (puts_then _ _ _ _ _ _ _ _ (omega arith) c.put_three-next.ensures.0 c.put_line.ensures.0)
