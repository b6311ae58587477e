-- The events behind the head are run, and the lines put of them and their answers.
use Rattle.std.proofs.Common.{arith, refl, rules, length, ◌≡◌, ◌*◌}
use Rattle.record.specs.Record.{most_events}
use Rattle.run.proofs.Sound.{sound_runnable}
use Rattle.table.proofs.Answered.{answered_printable, answered_lines}
use Rattle.table.proofs.lines.put_lines.Goals as goal

pub run_events-requires : goal.run_events-requires
run_events-requires c = sound_runnable _ c.requires.0 _ c.started.ensures _ refl

pub put_answered-requires : goal.put_answered-requires
put_answered-requires c =
    let size : length c.run_events.new.answers ≡ 3 * most_events = search rules in
    (answered_printable _ c.requires.0 _ c.started.ensures _ _ _ size c.run_events.ensures, omega arith)

pub returns : goal.returns
returns c =
    let size : length c.run_events.new.answers ≡ 3 * most_events = search rules in
    rw (answered_lines _ c.requires.0 _ c.started.ensures _ _ _ size c.run_events.ensures) at c.put_answered.ensures
