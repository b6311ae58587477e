-- The lengths of the buffers decide the one refusal.
use Rattle.report.proofs.Reported.{mended_short, line_short, both_reported}
use Rattle.report.proofs.report.Goals as goal

pub returns-then-mended-lt-MOST_BYTES : goal.returns-then-mended-lt-MOST_BYTES
returns-then-mended-lt-MOST_BYTES c = search mended_short

pub returns-then-line-lt-MOST_LINE : goal.returns-then-line-lt-MOST_LINE
returns-then-line-lt-MOST_LINE c = search line_short

pub returns : goal.returns
returns c = search both_reported
