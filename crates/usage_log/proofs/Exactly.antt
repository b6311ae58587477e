-- Each number is given exactly when its rule says.
use Rattle.bedside.specs.Log.{look_up_rules, look_up_answer}
use Rattle.bedside.specs.Refusals.{call_rules, call_answer}
use Rattle.calls.specs.declared.Call.TheVariants.{Text, Log}
use Rattle.condition.proofs.First.{first_given_exactly}
use Rattle.condition.specs.First.{absent, distinct}
use Rattle.usage_log.specs.Theorems.{CallGivenExactly, LookUpGivenExactly}

pub call_given_exactly : CallGivenExactly
unfolding call_answer absent distinct
call_given_exactly c (Text line) count = first_given_exactly (call_rules c (Text line) count) 0 tt
call_given_exactly c (Log night quarters) count = first_given_exactly (call_rules c (Log night quarters) count) 0 tt

pub look_up_given_exactly : LookUpGivenExactly
unfolding look_up_answer absent distinct
look_up_given_exactly c night = first_given_exactly (look_up_rules c night) 0 tt
