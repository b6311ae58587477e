-- Laws of a call that is lent a state: what was taken, and what is put back.
use Prim.Native.Nat.{ℕ}
use Rattle.std.specs.Option.{ok_or}
use Rattle.std.specs.Prelude.{⊤, Option, None, Some, Result, Ok, Err}
use lib.ListN.{length}
use mathlib.Core.List.{List}
use mathlib.Core.Path.{◌≡◌, refl, sym, ap, ◌∙◌}
use native.Mathlib.Omega.{arith}
use Rattle.condition.specs.First.{first_of}
use Rattle.controller.specs.declared.Controller.{Controller}
use Rattle.lent.proofs.Left.{done_writes}
use Rattle.refusal.specs.Refusals.{number, number_of}
use Rattle.refusal.specs.declared.Refusal.{Refusal}
use Rattle.refusal.specs.declared.Refusal.TheVariants.{NotInRange}
use Rattle.state.proofs.Lengths.{put_length, put_whole, taken_length}
use Rattle.state.specs.State.{state_bytes, put_of}
use Rattle.state.specs.Taken.{taken_of, answer_for, Putting}

-- taken: the bytes hold the controller
found : (o : Option Controller) (c : Controller) → Ok c ≡ ok_or o NotInRange → o ≡ Some c
found None c e = grind arith
found (Some k) c e = grind arith

-- refused: they hold none, and it is with 16
not_found : (o : Option Controller) (refusal : Refusal) → Err refusal ≡ ok_or o NotInRange → (o ≡ None) × (refusal ≡ NotInRange)
not_found None refusal e = (refl, grind arith)
not_found (Some k) refusal e = grind arith

pub held : (state : List ℕ) (c : Controller) → Ok c ≡ ok_or (taken_of state) NotInRange → taken_of state ≡ Some c
held state c e = found (taken_of state) c e

pub none_held : (state : List ℕ) (refusal : Refusal) → Err refusal ≡ ok_or (taken_of state) NotInRange → (taken_of state ≡ None) × (number refusal ≡ 16)
none_held state refusal e = let none = not_found (taken_of state) refusal e in (none.0, ap number none.1)

-- so their length is a controller's
pub held_length : (state : List ℕ) (c : Controller) → Ok c ≡ ok_or (taken_of state) NotInRange → length state ≡ state_bytes
held_length state c e = taken_length state c (held state c e)

-- ---- put back

room : answer_for state_bytes ≡ 0
unfolding answer_for first_of
room = refl

pub put_back : (c : Controller) (state : List ℕ) → length state ≡ state_bytes → length c.display ≡ 80 → length c.character ≡ 64 → (r : Result ⊤ Refusal) (left : List ℕ) → Putting c state r left
    → (number_of r ≡ 0) × (left ≡ put_of c)
put_back c state size display character r left p =
    let done : answer_for (length state) ≡ 0 = rw size room in
    (p.number ∙ done, p.buffer ∙ sym (done_writes _ _ state done) ∙ put_whole c state (put_length c display character ∙ sym size))
