-- The loop fills the buffer with zeros, a byte a turn.
use Rattle.std.proofs.Common.{◌≡◌, ℕ, ◌<◌, get_or}
use Rattle.picture.proofs.whole.blank.Given as goal

abbrev pub invariant-loop-dots : goal.invariant-loop-dots
invariant-loop-dots l = (k : ℕ) → k < l.dots-index → get_or l.out k 0 ≡ 0
