-- The promise of a call from C is two equations.
use Rattle.condition.proofs.Settled.{settled}
use Rattle.bias_export.specs.Theorems.{CalledSettled}

pub called_settled : CalledSettled
called_settled vdd span fifth out r r' left left' p p' = (settled p.size p'.size, settled p.buffer p'.buffer)
