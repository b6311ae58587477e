-- A figure is a byte's, of at most three digits.
use Rattle.std.proofs.Common.{arith}
use Rattle.text.proofs.Decimal.{digits_below}
use Rattle.course.proofs.line.put_line.Goals as goal

pub put_number-requires : goal.put_number-requires
put_number-requires c = omega (arith, digits_below 2 c.in-Figure.quarters (omega arith))
