-- Laws of parts that are lent one behind the other and given back.
use Prim.Native.Nat.{ℕ, ◌+◌, ◌-◌}
use lib.ListN.{length, take, drop, length-append}
use lib.Seq.{take_at, drop-length, drop_at}
use mathlib.Core.List.{List, ◌++◌, append-nil}
use mathlib.Core.Path.{◌≡◌, sym, ◌∙◌}
use native.Mathlib.Nat.{zero-add, add-sub_cancel_left}
use Rattle.lent.specs.Put.{put_at, Puts}

-- what is lent from the end of a front on, and given back
rest_put : (front rest new : List ℕ) (at : ℕ) → length front ≡ at
    → take at (front ++ rest) ++ (new ++ drop (length (front ++ rest) - at) (drop at (front ++ rest))) ≡ front ++ new
rest_put front rest new at e =
    rw (take_at front rest at e, drop_at front rest at e, length-append, e, add-sub_cancel_left, drop-length, append-nil)

pub behind_put : (head new part d out : List ℕ) (at : ℕ) → Puts head 0 d at out → part ≡ new
    → take at out ++ (part ++ drop (length out - at) (drop at out)) ≡ head ++ new
unfolding put_at
behind_put head new part d out at p e =
    rw (p.buffer, e) (rest_put head (drop (0 + length head) d) new at (sym (p.next ∙ zero-add _)))
