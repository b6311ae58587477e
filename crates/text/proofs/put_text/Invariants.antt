-- The invariant: the text's bytes in front of `at` are put.
use Rattle.std.proofs.Common.{take, ◌+◌}
use Rattle.lent.specs.Put.{Puts}
use Rattle.text.proofs.put_text.Given as goal

abbrev pub invariant-loop-at : goal.invariant-loop-at
invariant-loop-at l = Puts (take l.at l.text) l.place l.fn.out (l.place + l.at) l.out
