-- The night is looked up in the controller that the bytes hold.
use Rattle.std.proofs.lemmas.Result.{err_from_is_err_and}
use Rattle.condition.proofs.Flag.{flag_number_lem}
use Rattle.trestlecap.proofs.Panel.{look_none, look_refused, look_found}
use Rattle.trestlecap.proofs.nights.looked_up.Goals as goal

pub returns-in_err-take : goal.returns-in_err-take
returns-in_err-take c =
    let p = err_from_is_err_and c.from_residual.result c.from_residual.ensures.1 in
    rw (p.1, p.2) (look_none _ _ _ _ _ c.in_err-take.ensures)

pub returns-in_err-figure : goal.returns-in_err-figure
returns-in_err-figure c =
    let p = err_from_is_err_and c.from_residual-in_err-figure.result c.from_residual-in_err-figure.ensures.1 in
    rw (p.1, p.2) (look_refused _ _ _ _ _ c.in_ok-take.ensures _ c.in_err-figure.ensures)

pub returns : goal.returns
returns c = rw flag_number_lem (look_found _ _ _ _ _ c.in_ok-take.ensures _ c.in_ok-figure.ensures _ _ c.is_some.ensures c.unwrap_or.ensures)
