-- A digit is put: those of a tenth are missing.
use Rattle.std.proofs.Common.{◌+◌, ◌-◌, ◌≡◌, arith}
use Rattle.text.proofs.Decimal.{missing_next}
use Rattle.text.proofs.put_decimal.Goals as goal

pub loop-at-preserved : goal.loop-at-preserved
loop-at-preserved c =
    let here : c.args.place + (c.loop-at.at - 1) ≡ c.args.place + c.loop-at.at - 1 = omega arith in
    rw (c.digit-in-loop-at.ensures, here) (missing_next _ _ _ _ _ _ c.loop-at.invariant (omega arith))
