-- A buffer with room takes what is put; any other is refused.
use Rattle.printing.proofs.Printed.{printed_short, printed_done}
use Rattle.sheet.proofs.sheet.Goals as goal

pub returns-then-out-lt-MOST_BYTES : goal.returns-then-out-lt-MOST_BYTES
returns-then-out-lt-MOST_BYTES c = printed_short _ _ _ c.if-out-lt-MOST_BYTES.true

pub returns : goal.returns
returns c = printed_done _ _ _ _ _ c.if-out-lt-MOST_BYTES.false c.put_sheet.ensures
