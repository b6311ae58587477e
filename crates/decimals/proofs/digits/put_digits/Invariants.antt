-- The invariant: putting the digits of the rest is all that is missing.
use Rattle.std.proofs.Common.{◌≡◌, ◌-◌, ◌≤◌}
use Rattle.lent.specs.Put.{put_at}
use Rattle.decimals.specs.Decimals.{digits_in}
use Rattle.decimals.proofs.digits.put_digits.Given as goal

abbrev pub invariant-loop-last : goal.invariant-loop-last
invariant-loop-last l =
    (l.place ≤ l.last) × (put_at l.place (digits_in l.base (l.last - l.place) l.rest) l.out ≡ put_at l.place (digits_in l.base l.count l.n) l.fn.out)
