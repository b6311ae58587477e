-- The promise settles the answer and every byte of the buffer.
use Rattle.condition.proofs.Settled.{settled}
use Rattle.refusal.proofs.Settled.{answer_settled}
use Rattle.picture.specs.Theorems.{PictureSettled}

pub picture_settled : PictureSettled
picture_settled c digits rom phase out answer other left left_other p q =
    (answer_settled _ answer other p.number q.number, settled p.buffer q.buffer)
