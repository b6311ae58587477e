-- The paper's example holds, by computation.
use mathlib.Core.Path.{refl}
use Rattle.bus.specs.Rules.{rules}
use Rattle.condition.specs.First.{first_of}
use Rattle.record.specs.Event.{event_of}
use Rattle.record.specs.Record.{front_events, events_in, events_of, any_ill_formed, bad_events, check_of}
use Rattle.text.specs.Text.{digits_of, decimal_of}
use Rattle.table.specs.Table.{spaced, line_of, event_lines, table_of, printed_of}
use Rattle.table.specs.Theorems.{PaperExample}

pub paper_example : PaperExample
unfolding rules first_of event_of front_events events_in events_of any_ill_formed bad_events check_of digits_of decimal_of spaced line_of event_lines table_of printed_of
paper_example = refl
