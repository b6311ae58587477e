-- A law for each verdict.
use Rattle.course.proofs.Verdicts.{too_long, record_refused, full, not_full}
use Rattle.course.proofs.verdict.decide.Goals as goal

pub returns-then-bytes-gt-MOST_BYTES : goal.returns-then-bytes-gt-MOST_BYTES
returns-then-bytes-gt-MOST_BYTES c = too_long _ _ _ _ c.if-bytes-gt-MOST_BYTES.true

pub returns-in-Err : goal.returns-in-Err
returns-in-Err c = record_refused _ _ _ _ c.if-bytes-gt-MOST_BYTES.false _ c.in-Err.ensures.number

pub returns-then-bytes-added : goal.returns-then-bytes-added
returns-then-bytes-added c = full _ _ _ _ c.if-bytes-gt-MOST_BYTES.false c.in-Ok.ensures c.ask-said.ensures c.if-bytes-added.true

pub returns-else-bytes-added : goal.returns-else-bytes-added
returns-else-bytes-added c = not_full _ _ _ _ c.if-bytes-gt-MOST_BYTES.false c.in-Ok.ensures c.ask-said.ensures c.if-bytes-added.false
