-- Bytes that hold no controller are 16; the one that they hold is restarted and put back.
use Rattle.std.proofs.lemmas.Result.{err_from_is_err_and}
use Rattle.trestlecap.proofs.OnBoard.{restart_none, restart_refused, restart_done}
use Rattle.trestlecap.proofs.board.restarted.Goals as goal

pub returns-in_err-take : goal.returns-in_err-take
returns-in_err-take c =
    let p = err_from_is_err_and c.from_residual.result c.from_residual.ensures.1 in
    rw (p.1, p.2) (restart_none _ _ c.in_err-take.ensures)

pub returns-in_err-outcome : goal.returns-in_err-outcome
returns-in_err-outcome c =
    let p = err_from_is_err_and c.from_residual-in_err-outcome.result c.from_residual-in_err-outcome.ensures.1 in
    rw (p.1, p.2) (restart_refused _ _ c.in_ok-take.ensures _ c.restart-outcome.ensures _ c.in_err-outcome.was)

pub returns : goal.returns
returns c = restart_done _ _ c.in_ok-take.ensures _ c.restart-outcome.ensures _ _ c.keep.ensures
