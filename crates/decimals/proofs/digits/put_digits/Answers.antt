-- A digit is put: those of the quotient are missing.
use Rattle.std.proofs.Common.{◌∙◌, arith}
use Rattle.decimals.proofs.LastDigits.{last_digit_put, no_digits_left}
use Rattle.decimals.proofs.digits.put_digits.Goals as goal

pub loop-last-preserved : goal.loop-last-preserved
loop-last-preserved c =
    (omega arith, rw c.character.ensures (last_digit_put _ _ _ _ _ c.loop-last-test.true (omega arith) ∙ c.loop-last.invariant.1))

pub returns : goal.returns
returns c = no_digits_left _ _ _ _ _ _ _ _ c.loop-last-test.false c.loop-last.invariant.1
