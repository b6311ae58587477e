-- The picture is that of the controller that the bytes hold.
use Rattle.std.proofs.lemmas.Result.{err_from_is_err_and}
use Rattle.trestlecap.proofs.Pictured.{shown_none, shown_held}
use Rattle.trestlecap.proofs.shown.shown.Goals as goal

pub returns-in_err-take : goal.returns-in_err-take
returns-in_err-take c =
    let p = err_from_is_err_and c.from_residual.result c.from_residual.ensures.1 in
    rw (p.1, p.2) (shown_none _ _ _ _ _ _ c.in_err-take.ensures)

pub returns : goal.returns
returns c = shown_held _ _ _ _ _ _ c.in_ok-take.ensures _ _ _ c.from.ensures c.picture.ensures
