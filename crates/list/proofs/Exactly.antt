-- Each number is given exactly when its rule says, since no number stands twice among the rules.
use Rattle.condition.proofs.First.{first_given_exactly}
use Rattle.condition.specs.First.{absent, distinct}
use Rattle.list.specs.List.{refusals, answer_for}
use Rattle.list.specs.Theorems.{ListGivenExactly}

pub list_given_exactly : ListGivenExactly
unfolding answer_for distinct absent
list_given_exactly r events room = first_given_exactly (refusals r events room) 0 tt
