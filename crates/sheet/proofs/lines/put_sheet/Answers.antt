-- A refusal is printed, and steps as their lines.
use Rattle.sheet.specs.Sheet.{printed_for, sheet_of}
use Rattle.sheet.proofs.Printed.{lines_asked}
use Rattle.sheet.proofs.lines.put_sheet.Goals as goal

pub put_lines-requires : goal.put_lines-requires
put_lines-requires c = let asked = lines_asked _ _ c.in-Ok.ensures in (asked.0, asked.1, c.requires)

pub returns-in-Ok : goal.returns-in-Ok
unfolding sheet_of printed_for
returns-in-Ok c = rw (← c.in-Ok.ensures) c.put_lines.ensures

pub returns-in-Err : goal.returns-in-Err
unfolding sheet_of printed_for
returns-in-Err c = rw (← c.in-Err.ensures, ← c.from.ensures) c.put_refused.ensures
