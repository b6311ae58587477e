-- The example holds, by computation.
use mathlib.Core.Path.{refl}
use Rattle.condition.specs.First.{first_of}
use Rattle.mending.specs.Mend.{kept_of, mended_of, mend_of, told_of}
use Rattle.record.specs.Event.{event_of}
use Rattle.record.specs.Record.{front_events, events_in, events_of}
use Rattle.text.specs.Text.{digits_of, decimal_of}
use Rattle.report.specs.Report.{counts_of, line_of, line_for, record_for}
use Rattle.report.specs.Theorems.{CutExample}

pub cut_example_lem : CutExample
unfolding record_for line_for line_of counts_of mend_of mended_of told_of kept_of first_of events_of events_in front_events event_of decimal_of digits_of
cut_example_lem = (refl, refl)
