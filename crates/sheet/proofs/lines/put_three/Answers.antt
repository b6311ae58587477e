-- Line after line is put, and each leaves room for the next.
use Rattle.std.proofs.Common.{arith}
use Rattle.lent.proofs.Placed.{puts_then}
use Rattle.sheet.specs.Sheet.{three_lines}
use Rattle.sheet.proofs.lines.put_three.Goals as goal

pub returns : goal.returns
unfolding three_lines
returns c =
    let first = c.put_line-next.ensures in
    let second = c.put_line-last.ensures in
    let third = c.put_line.ensures in (
      puts_then _ _ _ _ _ _ _ _ (omega arith) first.0 (puts_then _ _ _ _ _ _ _ _ (omega (arith, first.1)) second.0 third.0),
      omega (arith, first.1, second.1, third.1),
    )
