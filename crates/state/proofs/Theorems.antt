-- Only what is put is taken; a controller put and taken is the same.
use Rattle.std.proofs.lemmas.Option.{same_Some}
use Rattle.std.proofs.lemmas.Slice.Eq.{bytes_eq-Decides}
use Rattle.std.specs.Option.{ok_or}
use Rattle.std.specs.Prelude.{Option, None, Some, Result, Err}
use borrow.Author.Tests.{eq-eqb}
use lib.ListN.{length, drop}
use mathlib.Core.Path.{◌≡◌, refl, sym, ap, ◌∙◌}
use Rattle.condition.proofs.First.{first_given_exactly}
use Rattle.condition.proofs.Tests.{is_true}
use Rattle.condition.specs.First.{absent, distinct}
use Rattle.controller.specs.Part.{in_range}
use Rattle.controller.specs.declared.Controller.{Controller}
use Rattle.refusal.specs.declared.Refusal.{Refusal}
use Rattle.refusal.specs.declared.Refusal.TheVariants.{NotInRange}
use Rattle.state.specs.State.{registers_put, put_of}
use Rattle.state.specs.Taken.{registers_read, put_again, is_state, taken_of, refusals, answer_for}
use Rattle.state.specs.Theorems.{TakenExactly, PutTaken, PutAlone, PutGivenExactly, TakeGivenExactly}
use Rattle.state.proofs.Back.{put_behind, registers_again, back}
use Rattle.state.proofs.Lengths.{put_length, taken_held}

pub put_taken : PutTaken
unfolding taken_of is_state put_again
put_taken c s =
    let registers : registers_read (put_of c) ≡ c.registers = registers_again c s.display s.character in
    let behind : drop 144 (put_of c) ≡ registers_put c.registers = put_behind c s.display s.character in
    let put = registers_put c.registers in
    rw (eq-eqb (length (put_of c)) 159 (put_length c s.display s.character), registers, behind, (bytes_eq-Decides put put).1 refl, is_true (in_range c.registers) s.ranged, back c s.display s.character)

pub taken_exactly : TakenExactly
taken_exactly bytes c = (taken_held bytes c, λ h. ap taken_of h.put ∙ put_taken c h.sound)

pub put_alone : PutAlone
put_alone c k s t e = same_Some c k (sym (put_taken c s) ∙ ap taken_of e ∙ put_taken k t)

pub put_given_exactly : PutGivenExactly
unfolding answer_for distinct absent
put_given_exactly buffer = first_given_exactly (refusals buffer) 0 tt

-- what is answered where nothing is found
none_found : (found : Option Controller) (r : Result Controller Refusal) → r ≡ ok_or found NotInRange → ((c : Controller) → found ≡ Some c → ⊥) → r ≡ Err NotInRange
none_found None r e h = e
none_found (Some c) r e h = absurd (h c refl)

pub take_given_exactly : TakeGivenExactly
take_given_exactly bytes r p = (
  λ c h. p ∙ ap (λ (found : Option Controller). ok_or found NotInRange) ((taken_exactly bytes c).1 h),
  λ h. none_found (taken_of bytes) r p (λ c found. h c (taken_held bytes c found)),
)
