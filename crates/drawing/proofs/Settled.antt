-- The promise settles the answer and every byte of the buffer: an answer is had back from its number and value.
use Rattle.std.specs.Result.{result_unwrap_or}
use mathlib.Core.Path.{refl}
use Rattle.condition.proofs.Settled.{settled}
use Rattle.refusal.proofs.Settled.{values_settled}
use Rattle.drawing.specs.Theorems.{DrawingSettled}

pub drawing_settled : DrawingSettled
drawing_settled form mode digits dots out answer other left left_other p q =
    (values_settled (λ r. result_unwrap_or r 0) (λ size. size) (λ size. refl) p.number q.number p.value q.value, settled p.buffer q.buffer)
