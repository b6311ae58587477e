-- The example holds, by computation.
use mathlib.Core.Path.{refl}
use Rattle.bedside.specs.Log.{is_written, figure_of, look_up_answer}
use Rattle.bedside.specs.Refusals.{is_ready, call_answer}
use Rattle.bus.specs.Rules.{rules}
use Rattle.calls.specs.Events.{byte_events, log_events, call_events}
use Rattle.condition.specs.First.{first_of}
use Rattle.record.specs.Event.{event_of}
use Rattle.record.specs.Record.{framed, body_of, front_events, events_in, events_of, any_ill_formed, bad_events, check_of}
use Rattle.run.specs.Run.{ran_of}
use Rattle.text.specs.Text.{digits_of, decimal_of, refused_of}
use Rattle.course.specs.Course.{answer_to, events_on, added_by, figure_line, done_line, call_line, is_full, lengthened, record_for, line_for}
use Rattle.course.specs.Theorems.{ExamplePlays}

-- the record, and the part that it leads to
unfoldable leading : Unit {0}
unfolding rules first_of event_of front_events events_in events_of any_ill_formed bad_events check_of framed body_of ran_of
leading = tt

-- the panel's answers, and the events of a night logged
unfoldable answering : Unit {0}
unfolding is_written figure_of look_up_answer is_ready call_answer byte_events log_events call_events
answering = tt

pub example_plays : ExamplePlays
unfolding leading answering answer_to events_on added_by figure_line done_line call_line is_full lengthened record_for line_for digits_of decimal_of refused_of
example_plays = record { logged = refl; said = refl; read = refl; again = refl; kept = refl }
