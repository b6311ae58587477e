-- Each of the three outcomes by its law.
use Rattle.std.proofs.Common.{arith}
use Rattle.report.proofs.Outcomes.{both_too_long, both_refused, both_mended, told_fits}
use Rattle.report.proofs.written.put_both.Goals as goal

pub returns-then-bytes-gt-MOST_INPUT : goal.returns-then-bytes-gt-MOST_INPUT
returns-then-bytes-gt-MOST_INPUT c = rw c.line_alone.ensures (both_too_long _ _ _ _ _ c.if-bytes-gt-MOST_INPUT.true c.put_text.ensures)

pub put_line-requires : goal.put_line-requires
put_line-requires c = let said = told_fits _ _ c.if-bytes-gt-MOST_INPUT.false c.requires.0 _ _ c.in-Ok.ensures in (said.0, said.1, c.requires.1)

pub overflow_mul-result : goal.overflow_mul-result
overflow_mul-result c = omega (arith, (told_fits _ _ c.if-bytes-gt-MOST_INPUT.false c.requires.0 _ _ c.in-Ok.ensures).0)

pub overflow_add-result : goal.overflow_add-result
overflow_add-result c = omega (arith, (told_fits _ _ c.if-bytes-gt-MOST_INPUT.false c.requires.0 _ _ c.in-Ok.ensures).0)

pub returns-in-Ok : goal.returns-in-Ok
returns-in-Ok c = both_mended _ _ c.if-bytes-gt-MOST_INPUT.false c.requires.0 _ _ c.in-Ok.ensures _ _ _ c.put_line.ensures

pub returns-in-Err : goal.returns-in-Err
returns-in-Err c = rw c.line_alone-in-Err.ensures (both_refused _ _ c.if-bytes-gt-MOST_INPUT.false c.requires.0 _ _ c.in-Err.ensures _ c.from.ensures _ _ _ c.put_refused.ensures)
