-- Bytes that hold no controller are 16; the list is run by the one that they hold, and what it leaves put back.
use Rattle.std.proofs.lemmas.Result.{err_from_is_err_and}
use Rattle.trestlecap.proofs.OnBoard.{list_none, list_refused, list_done}
use Rattle.trestlecap.proofs.board.list_run.Goals as goal

pub returns-in_err-controller : goal.returns-in_err-controller
returns-in_err-controller c =
    let p = err_from_is_err_and c.from_residual.result c.from_residual.ensures.1 in
    rw (p.1, p.2) (list_none _ _ _ _ c.in_err-controller.ensures)

pub returns-in_err-run_list : goal.returns-in_err-run_list
returns-in_err-run_list c =
    let p = err_from_is_err_and c.from_residual-in_err-run_list.result c.from_residual-in_err-run_list.ensures.1 in
    rw (p.1, p.2) (list_refused _ _ _ _ c.in_ok-controller.ensures _ _ _ c.in_err-run_list.ensures)

pub returns : goal.returns
returns c = list_done _ _ _ _ c.in_ok-controller.ensures _ _ c.in_ok-run_list.ensures _ _ c.keep.ensures
