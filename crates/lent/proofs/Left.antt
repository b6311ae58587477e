-- Laws of what a call leaves in a buffer, where it is refused and where it is not.
use Prim.Native.Nat.{ℕ, ◌≤◌}
use borrow.Author.Tests.{eq-eqb}
use lib.Dec.{eqb}
use lib.ListN.{length, take, drop, length-take}
use lib.Seq.{take_at, drop_at}
use mathlib.Core.Bool.{false}
use mathlib.Core.List.{List, ◌++◌}
use mathlib.Core.Path.{◌≡◌, sym, ap, ◌∙◌}
use native.Mathlib.Omega.{arith}
use Rattle.lent.specs.Buffer.{over, unless_refused}

-- ---- new bytes at the front

module _ (new out : List ℕ) (n : ℕ) (size : length new ≡ n) where
  pub over_by : over new out ≡ new ++ drop n out
  unfolding over
  over_by = ap (λ (k : ℕ). new ++ drop k out) size

  over_front : take n (over new out) ≡ new
  over_front = ap (take n) over_by ∙ take_at new (drop n out) n size

  pub over_rest : drop n (over new out) ≡ drop n out
  over_rest = ap (drop n) over_by ∙ drop_at new (drop n out) n size

-- ---- a call that is refused, or not

pub refused_keeps : (number : ℕ) (new out : List ℕ) → eqb number 0 ≡ false → out ≡ unless_refused number new out
unfolding unless_refused
refused_keeps number new out e = simp e

pub done_writes : (number : ℕ) (new out : List ℕ) → number ≡ 0 → over new out ≡ unless_refused number new out
unfolding unless_refused
done_writes number new out e = simp (eq-eqb _ _ e)

-- where the bytes written are counted by the way
pub done_writes_all : (number size : ℕ) (new part out left : List ℕ) → number ≡ 0 → size ≡ length new → part ≡ new → left ≡ part ++ drop size out → left ≡ unless_refused number new out
done_writes_all number size new part out left e s p l =
    l ∙ ap (λ (bytes : List ℕ). bytes ++ drop size out) p ∙ sym (over_by new out size (sym s)) ∙ done_writes number new out e

-- what such a call leaves: the new bytes, and those behind them
pub front_and_rest : (number n : ℕ) (new out left : List ℕ) → left ≡ unless_refused number new out → number ≡ 0 → length new ≡ n → (take n left ≡ new) × (drop n left ≡ drop n out)
front_and_rest number n new out left e done size =
    let whole : left ≡ over new out = e ∙ sym (done_writes number new out done) in
    (ap (take n) whole ∙ over_front new out n size, ap (drop n) whole ∙ over_rest new out n size)

-- so that as many bytes as it says are there, and are those
pub at_front : (number size : ℕ) (new out left : List ℕ) → left ≡ unless_refused number new out → number ≡ 0 → size ≡ length new → (size ≤ length left) × (take size left ≡ new)
at_front number size new out left e done counted =
    let front : take size left ≡ new = (front_and_rest number size new out left e done (sym counted)).0 in
    (omega (arith, length-take size left, ap length front), front)
