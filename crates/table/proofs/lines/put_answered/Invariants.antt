-- The invariant: each line so far had its room, and the lines of the events still to come are to be put.
use Rattle.std.proofs.Common.{length, ◌+◌, ◌*◌, ◌%◌, ◌≤◌, ◌≡◌}
use Rattle.lent.proofs.Placed.{Awaits}
use Rattle.record.specs.Record.{most_events}
use Rattle.table.specs.Promises.{lines_of, AllNarrow}
use Rattle.table.specs.Table.{line_bytes}
use Rattle.table.proofs.lines.put_answered.Given as goal

abbrev pub invariant-loop-number : goal.invariant-loop-number
invariant-loop-number l =
    (l.number-iterator.a.b.size ≡ 3)
    × (l.number-iterator.b.size ≡ 3)
    × (1 ≤ l.number-iterator.a.a.start)
    × (length l.number-iterator.a.b.rest.now + l.number-iterator.a.a.start * 3 ≡ length l.events + 3)
    × (length l.out ≡ length l.fn.out)
    × (length l.events % 3 ≡ 0)
    × (length l.events ≤ 3 * most_events)
    × (length l.number-iterator.a.b.rest.now ≤ length l.number-iterator.b.rest.now)
    × (l.next + line_bytes * (most_events + 1) ≤ length l.out + line_bytes * l.number-iterator.a.a.start)
    × AllNarrow l.number-iterator.a.b.rest.now l.number-iterator.b.rest.now
    × Awaits (lines_of l.number-iterator.a.a.start l.number-iterator.a.b.rest.now l.number-iterator.b.rest.now) l.next l.out (lines_of 1 l.events l.answers) l.place l.fn.out
