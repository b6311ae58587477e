-- The invariant: the numbers from a place on are still to be put.
use Rattle.std.proofs.Common.{length, drop, ◌≡◌}
use Rattle.lent.proofs.Placed.{Awaits}
use Rattle.table.specs.Table.{spaced}
use Rattle.table.proofs.line.put_spaced.Given as goal

abbrev pub invariant-loop-number : goal.invariant-loop-number
invariant-loop-number l = Awaits (spaced (drop l.number-index l.numbers)) l.next l.out (spaced l.numbers) l.place l.fn.out × (length l.out ≡ length l.fn.out)
