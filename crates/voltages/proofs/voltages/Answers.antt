-- The first test that fails gives its refusal; where neither fails the steps are given.
use Rattle.std.proofs.Common.{sym}
use Rattle.voltages.proofs.Answers.{vdd_refused, span_refused, steps_given}
use Rattle.voltages.proofs.voltages.Goals as goal

pub returns-then-not-within : goal.returns-then-not-within
returns-then-not-within c = vdd_refused _ (sym c.if-not-within.ensures)

pub returns-then-not-within-2 : goal.returns-then-not-within-2
returns-then-not-within-2 c = span_refused _ (sym c.if-not-within.ensures) (sym c.if-not-within-2.ensures)

pub returns : goal.returns
returns c = rw c.steps.ensures (steps_given _ (sym c.if-not-within.ensures) (sym c.if-not-within-2.ensures))
