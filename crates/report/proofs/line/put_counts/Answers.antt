-- The counts are put one behind the other, by the laws of their digits.
use Rattle.report.proofs.Parts.{counts_put, counts_end}
use Rattle.report.proofs.line.put_counts.Goals as goal

pub returns : goal.returns
returns c = search (counts_put, counts_end)
