-- Any two outcomes that a promise allows are equal: an answer is had back from its number, a look-up from number and figure.
use Rattle.std.specs.Prelude.{None}
use Rattle.std.specs.Result.{result_unwrap_or}
use mathlib.Core.Path.{refl}
use Rattle.condition.proofs.Settled.{settled}
use Rattle.refusal.proofs.Settled.{answer_settled as by_number, values_settled}
use Rattle.usage_log.specs.Theorems.{AnswerSettled, CallSettled, LookUpSettled}

pub answer_settled : AnswerSettled
answer_settled c call count r r' p q = by_number _ r r' p q

pub call_settled : CallSettled
call_settled c call characters o o' p q =
    (λ i. record {
      controller = settled p.controller q.controller i;
      answer = by_number _ o.answer o'.answer p.number q.number i;
      wrap = settled p.wrap q.wrap i;
    })

pub look_up_settled : LookUpSettled
look_up_settled c night r r' p q = values_settled (λ x. result_unwrap_or x None) (λ figure. figure) (λ figure. refl) p.number q.number p.value q.value
