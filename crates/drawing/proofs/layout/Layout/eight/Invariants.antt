-- The loop packs a bit a turn; what is packed so far is below a power of two.
use Rattle.std.proofs.Common.{◌≡◌, ◌+◌, ◌^◌, ◌≤◌, ◌<◌, get_or}
use Rattle.drawing.specs.Row.{bit_at, packed}
use Rattle.drawing.proofs.layout.Layout.eight.Given as goal

abbrev pub invariant-loop-n : goal.invariant-loop-n
invariant-loop-n l =
    (l.n ≤ 8) × (l.byte < 2 ^ l.n) × (l.byte ≡ packed l.n (λ m. bit_at l.self.digits (λ digit. get_or l.dots digit 0) (l.x + m)))
