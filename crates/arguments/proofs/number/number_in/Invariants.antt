-- The loop reads a digit a turn; the characters before it are digits, which mean the number so far.
use Rattle.arguments.proofs.Numbers.{Counted}
use Rattle.arguments.proofs.number.number_in.Given as goal

abbrev pub invariant-loop-character : goal.invariant-loop-character
invariant-loop-character l = Counted l.most l.word l.number l.character-index
