-- The invariant: the writes still to come lead where all twelve lead from the first.
use Rattle.std.proofs.Common.{◌≡◌, true}
use Rattle.controller.specs.Part.{in_range}
use Rattle.restart.specs.Writes.{halves, after, patient, lower_lines}
use Rattle.restart.proofs.Firsts.{low, Small}
use Rattle.restart.proofs.restart.Given as goal

abbrev pub invariant-loop-upper : goal.invariant-loop-upper
invariant-loop-upper l =
    Small l.upper-iterator.a.rest.now
    × (after l.upper-iterator.a.rest.now (patient (low l.upper-iterator.b.rest.now)) l.after ≡ after halves (patient (lower_lines l.fn.lower)) l.fn.controller)
    × (in_range l.after.registers ≡ true)
