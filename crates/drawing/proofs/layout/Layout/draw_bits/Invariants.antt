-- The loop fills the buffer, a byte of eight bits a turn.
use Rattle.std.proofs.Common.{◌+◌, ◌*◌, get_or}
use Rattle.lent.proofs.Lists.{Filled}
use Rattle.drawing.specs.Row.{bit_at, packed}
use Rattle.drawing.proofs.layout.Layout.draw_bits.Given as goal

abbrev pub invariant-loop-k : goal.invariant-loop-k
invariant-loop-k l =
    Filled (λ n. packed 8 (λ m. bit_at l.self.digits (λ digit. get_or l.dots digit 0) (8 * n + m))) l.fn.out l.out l.k
