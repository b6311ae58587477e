-- The promises settle what the words ask for, both answers and every byte of both buffers.
use Rattle.condition.proofs.Settled.{settled}
use Rattle.printing.proofs.Settled.{printed_settled}
use Rattle.course.specs.Theorems.{PlaySettled, WordsSettled}

pub play_settled : PlaySettled
play_settled request characters bytes longer line r r' longer_left longer_left' line_left line_left' p p' =
    let first = printed_settled _ _ _ _ _ _ _ p.longer_printed p'.longer_printed in
    let second = printed_settled _ _ _ _ _ _ _ p.line_printed p'.line_printed in
    ((λ i. record { longer = first.0 i; line = second.0 i }), first.1, second.1)

pub words_settled : WordsSettled
words_settled words what first second asked other p q = settled p q
