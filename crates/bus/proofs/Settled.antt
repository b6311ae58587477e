-- Any two outcomes that a promise allows are equal: an answer is had back from what is told.
use mathlib.Core.Path.{◌≡◌, ap}
use Rattle.condition.proofs.Settled.{settled}
use Rattle.controller.proofs.Settled.{same_answer}
use Rattle.controller.specs.Told.{Told}
use Rattle.bus.specs.Theorems.{TransferSettled}
use Rattle.bus.specs.Transfer.{told}

pub transfer_settled : TransferSettled
transfer_settled o p t e f =
    let same : told o ≡ told p = settled e f in
    let answer = same_answer o.answer p.answer (ap (λ (x : Told). x.said.number) same) (ap (λ (x : Told). x.said.value) same) in
    λ i. record { controller = (same i).controller; answer = answer i; wrap = (same i).said.wrap }
