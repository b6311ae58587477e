-- The promise settles the answer and every byte of the buffer: an answer is had back from its number and value.
use Rattle.std.specs.Result.{result_unwrap_or}
use mathlib.Core.Path.{refl}
use Rattle.condition.proofs.Settled.{settled}
use Rattle.refusal.proofs.Settled.{values_settled}
use Rattle.printing.specs.Theorems.{PrintedSettled}

pub printed_settled : PrintedSettled
printed_settled most text out r r' left left' p p' =
    (values_settled (λ r. result_unwrap_or r 0) (λ size. size) (λ size. refl) p.number p'.number p.value p'.value, settled p.buffer p'.buffer)
