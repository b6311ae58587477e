-- Any two outcomes that a promise allows are equal: an answer is had back from its number.
use Rattle.condition.proofs.Settled.{settled}
use Rattle.refusal.proofs.Settled.{answer_settled}
use Rattle.list.specs.Theorems.{NumberSettled, RunListSettled}

pub number_settled : NumberSettled
number_settled answer r s p q = settled p q

pub run_list_settled : RunListSettled
run_list_settled c events answers r s left left' out out' p q =
    (answer_settled _ r s p.number q.number, settled p.controller q.controller, settled p.buffer q.buffer)
