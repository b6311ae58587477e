-- Bytes that hold no controller are 16; the call is made of the one that they hold, and what it leaves put back.
use Rattle.std.proofs.lemmas.Result.{err_from_is_err_and}
use Rattle.condition.proofs.Flag.{flag_number_lem}
use Rattle.trestlecap.proofs.Panel.{call_none, call_refused, call_done}
use Rattle.trestlecap.proofs.nights.called.Goals as goal

pub returns-in_err-take : goal.returns-in_err-take
returns-in_err-take c =
    let p = err_from_is_err_and c.from_residual.result c.from_residual.ensures.1 in
    rw (p.1, p.2) (call_none _ _ _ _ _ c.in_err-take.ensures)

pub returns-in_err-outcome : goal.returns-in_err-outcome
returns-in_err-outcome c =
    let p = err_from_is_err_and c.from_residual-in_err-outcome.result c.from_residual-in_err-outcome.ensures.1 in
    rw (p.1, p.2) (call_refused _ _ _ _ _ c.in_ok-take.ensures _ c.make-outcome.ensures _ c.in_err-outcome.was)

pub returns : goal.returns
returns c = rw flag_number_lem (call_done _ _ _ _ _ c.in_ok-take.ensures _ c.make-outcome.ensures _ c.in_ok-outcome.was _ _ c.keep.ensures)
