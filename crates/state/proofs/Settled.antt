-- The promises settle the answer, every byte of the buffer and the controller.
use Rattle.condition.proofs.Settled.{settled}
use Rattle.refusal.proofs.Settled.{answer_settled}
use Rattle.state.specs.Theorems.{PutSettled, TakeSettled}

pub put_settled : PutSettled
put_settled c out r r' left left' p p' = (answer_settled _ r r' p.number p'.number, settled p.buffer p'.buffer)

pub take_settled : TakeSettled
take_settled bytes r r' p p' = settled p p'
