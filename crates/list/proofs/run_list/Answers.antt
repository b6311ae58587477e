-- A list of which nothing is refused is run.
use Rattle.std.proofs.Common.{◌≡◌, length, rules}
use Rattle.list.specs.List.{answer_for}
use Rattle.list.proofs.Taken.{list_ran}
use Rattle.list.proofs.run_list.Goals as goal

pub returns : goal.returns
returns c =
    let done : 0 ≡ answer_for c.args.controller.now.registers c.args.events.now (length c.args.answers.now) = search rules in
    list_ran _ _ _ done _ _ c.run_events.ensures
