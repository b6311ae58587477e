-- Any two outcomes of `obey` are equal: an effect is had back from its result.
use mathlib.Core.Path.{ap}
use Rattle.controller.proofs.Settled.{same_effect}
use Rattle.controller.specs.Result.{Result}
use Rattle.instructions.specs.Theorems.{ObeySettled}

pub obey_settled : ObeySettled
obey_settled i r e f p q =
    same_effect e f (ap (λ (s : Result). s.registers) p) (ap (λ (s : Result). s.registers) q) (ap (λ (s : Result). s.said) p) (ap (λ (s : Result). s.said) q)
