-- Laws of bytes put at the front of a buffer: put at place 0, they are over it.
use Prim.Native.Nat.{ℕ}
use lib.ListN.{length}
use mathlib.Core.List.{List}
use mathlib.Core.Path.{◌≡◌, sym, ◌∙◌}
use native.Mathlib.Nat.{zero-add}
use Rattle.lent.specs.Buffer.{over, unless_refused}
use Rattle.lent.specs.Put.{put_at, Puts}
use Rattle.lent.proofs.Left.{done_writes}

put_front : (new out : List ℕ) → put_at 0 new out ≡ over new out
unfolding put_at over
put_front new out = rw zero-add

-- what a call that is not refused has written was put at the front, and the other way
module _ (number : ℕ) (new out left : List ℕ) (done : number ≡ 0) where
  pub puts_front : (n : ℕ) → n ≡ length new → left ≡ unless_refused number new out → Puts new 0 out n left
  puts_front n size e =
      record { next = size ∙ sym (zero-add _); buffer = e ∙ sym (done_writes number new out done) ∙ sym (put_front new out) }

  pub front_written : (n : ℕ) → Puts new 0 out n left → (n ≡ length new) × (left ≡ unless_refused number new out)
  front_written n p = (p.next ∙ zero-add _, p.buffer ∙ put_front new out ∙ done_writes number new out done)
