-- The part that a record is run from is in range, and so is the part that its events leave.
use mathlib.Core.List.{[]}
use Rattle.bus.proofs.Range.{reached_in_range}
use Rattle.bus.specs.Events.{after_events}
use Rattle.run.specs.Run.{ran_of}
use Rattle.run.specs.Theorems.{StartedInRange, RanInRange}

pub started_in_range : StartedInRange
unfolding after_events
started_in_range = reached_in_range []

pub ran_in_range : RanInRange
unfolding ran_of
ran_in_range events = reached_in_range events
