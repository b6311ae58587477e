-- The counts, and then the end that the length has.
use Rattle.report.proofs.Parts.{line_altered, line_kept}
use Rattle.report.proofs.line.put_line.Goals as goal

pub returns-then-told : goal.returns-then-told
returns-then-told c = search line_altered

pub returns : goal.returns
returns c = search line_kept
