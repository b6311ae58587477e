-- The buffer's length decides the one refusal.
use Rattle.printing.proofs.Printed.{printed_short, printed_done}
use Rattle.table.proofs.table.Goals as goal

pub returns-then-out-lt-MOST_BYTES : goal.returns-then-out-lt-MOST_BYTES
returns-then-out-lt-MOST_BYTES c = search printed_short

pub returns : goal.returns
returns c = search printed_done
