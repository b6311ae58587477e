-- The sign is put, and then the ten-thousandths nearest to the exact value.
use Rattle.std.proofs.Common.{◌≡◌, ◌*◌, length, ap, ◌∙◌, arith}
use Rattle.lent.proofs.Placed.{puts_then}
use Rattle.decimals.specs.Decimals.{decimals_of, nearest_of, ten_thousandths, printed_volts}
use Rattle.decimals.proofs.Formulas.{distance_is, below_ten_volts}
use Rattle.decimals.proofs.Lengths.{length_volts}
use Rattle.decimals.proofs.volts.put_volts.Goals as goal

pub put_sign-next-requires : goal.put_sign-next-requires
put_sign-next-requires c = omega (arith, length_volts c.args.formula)

pub put_decimals-requires : goal.put_decimals-requires
put_decimals-requires c =
    let f = c.args.formula in
    let rounded : c.nearest-n.result ≡ ten_thousandths f = c.nearest-n.ensures ∙ ap (λ n. nearest_of (10000 * n) (64 * f.divisor)) (c.abs_diff.ensures ∙ distance_is _ _) in (
      rw rounded (below_ten_volts _ c.requires.0),
      omega (arith, ap (λ n. length (decimals_of n)) rounded, c.put_sign-next.ensures.next, length_volts f),
    )

pub returns : goal.returns
unfolding printed_volts
returns c =
    let f = c.args.formula in
    let rounded : c.nearest-n.result ≡ ten_thousandths f = c.nearest-n.ensures ∙ ap (λ n. nearest_of (10000 * n) (64 * f.divisor)) (c.abs_diff.ensures ∙ distance_is _ _) in
    puts_then _ _ _ _ _ _ _ _ (omega arith) c.put_sign-next.ensures (rw (← rounded) c.put_decimals.ensures)
