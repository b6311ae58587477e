-- Each promise is one equation, or two.
use Rattle.condition.proofs.Settled.{settled}
use Rattle.text.specs.Theorems.{PutSettled, DigitCountSettled}

pub put_settled : PutSettled
put_settled new place out r r' left left' p p' = (settled p.next p'.next, settled p.buffer p'.buffer)

pub digit_count_settled : DigitCountSettled
digit_count_settled n r r' e e' = settled e e'
