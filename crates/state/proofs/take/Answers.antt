-- The tests tell whether the bytes are a state; a law for each answer.
use Rattle.std.proofs.Common.{arith, sym, ◌∙◌}
use Rattle.state.proofs.Promise.{state_told, other_length, take_refused, take_done}
use Rattle.state.proofs.take.Goals as goal

pub returns-in_default : goal.returns-in_default
returns-in_default c = take_refused _ (other_length _ c.in_default.ensures.cases)

pub returns-then-not-put_again-in_range : goal.returns-then-not-put_again-in_range
returns-then-not-put_again-in_range c =
    let told = state_told _ _ _ _ _ (omega arith) c.registers_of-registers.ensures c.registers_put.ensures c.eq-put_again.ensures c.in_range.ensures in
    rw (← c.in-Some.ensures.cases.same) (take_refused _ (sym told ∙ c.if-not-put_again-in_range.true))

pub returns : goal.returns
returns c =
    let told = state_told _ _ _ _ _ (omega arith) c.registers_of-registers.ensures c.registers_put.ensures c.eq-put_again.ensures c.in_range.ensures in
    rw (← c.in-Some.ensures.cases.same) (take_done _ _ _ (sym told ∙ c.if-not-put_again-in_range.false) c.registers_of-registers.ensures c.with_memories.ensures)
