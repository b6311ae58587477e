-- The list from C is `run_list`, and a refused call writes nothing.
use Prim.Native.Nat.{ℕ}
use Rattle.std.specs.Prelude.{Option, None, Some}
use borrow.Author.Tests.{ne_eqb}
use lib.ListN.{length}
use mathlib.Core.List.{List}
use mathlib.Core.Path.{◌≡◌, refl, sym, ap, ◌∙◌}
use Rattle.bedside.specs.Panel.{call_wraps}
use Rattle.bedside.specs.Refusals.{call_answer}
use Rattle.condition.specs.Flag.{flag_number}
use Rattle.controller.specs.declared.Controller.{Controller}
use Rattle.list.proofs.Refused.{refused_list_leaves}
use Rattle.state.proofs.Lengths.{taken_held, taken_put}
use Rattle.state.proofs.Theorems.{taken_exactly}
use Rattle.state.specs.State.{put_of}
use Rattle.state.specs.Taken.{taken_of}
use Rattle.state.specs.Theorems.{Held}
use Rattle.trestlecap.specs.Called.{of_held, number_on, state_on, buffer_on, said_or}
use Rattle.trestlecap.specs.Theorems.{ListFromC, RefusedListWritesNothing, RefusedRestartWritesNothing, RefusedCallWritesNothing}
use Rattle.trestlecap.proofs.Refused.{refused_call, refused_restart}

-- bytes of which none is held are not taken
not_taken : (state : List ℕ) (found : Option Controller) → taken_of state ≡ found → ((c : Controller) → Held state c → ⊥) → taken_of state ≡ None
not_taken state None e never = e
not_taken state (Some c) e never = absurd (never c (taken_held state c e))

pub list_from_c : ListFromC
unfolding number_on state_on buffer_on
list_from_c state events answers r left out p = (
  λ c held.
      let there = (taken_exactly state c).1 held in
      (rw there at p.kept, record { number = rw there at p.number; controller = refl; buffer = rw there at p.buffer }),
  λ never.
      let none_there = not_taken state (taken_of state) refl never in
      (rw none_there at p.number, rw none_there at p.kept, rw none_there at p.buffer),
)

-- ---- by what the bytes hold

refused_state : (number : Controller → ℕ) (left : Controller → Controller) → ((k : Controller) → (number k ≡ 0 → ⊥) → left k ≡ k) → (state : List ℕ) (found : Option Controller) → taken_of state ≡ found
    → (of_held 16 number found ≡ 0 → ⊥) → of_held state (λ c. put_of (left c)) found ≡ state
refused_state number left refused state None e z = refl
refused_state number left refused state (Some c) e z = ap put_of (refused c z) ∙ sym (taken_put state c e)

refused_buffer : (number : Controller → ℕ) (buffer : Controller → List ℕ) (out : List ℕ) → ((k : Controller) → (number k ≡ 0 → ⊥) → buffer k ≡ out) → (found : Option Controller)
    → (of_held 16 number found ≡ 0 → ⊥) → of_held out buffer found ≡ out
refused_buffer number buffer out refused None z = refl
refused_buffer number buffer out refused (Some c) z = refused c z

pub refused_list_writes_nothing : RefusedListWritesNothing
unfolding number_on state_on buffer_on
refused_list_writes_nothing state events answers r left out p z = (
  p.kept ∙ refused_state _ _ (λ k y. (refused_list_leaves k events answers y).0) state (taken_of state) refl (λ y. z (p.number ∙ y)),
  p.buffer ∙ refused_buffer _ _ answers (λ k y. (refused_list_leaves k events answers y).1) (taken_of state) (λ y. z (p.number ∙ y)),
)

pub refused_restart_writes_nothing : RefusedRestartWritesNothing
unfolding number_on state_on
refused_restart_writes_nothing state r left p z = p.kept ∙ refused_state _ _ (refused_restart _) state (taken_of state) refl (λ y. z (p.number ∙ y))

pub refused_call_writes_nothing : RefusedCallWritesNothing
unfolding number_on state_on
refused_call_writes_nothing state call characters wrap r left wrap' p z = (
  p.kept ∙ refused_state _ _ (refused_call call characters) state (taken_of state) refl (λ y. z (p.number ∙ y)),
  p.said ∙ refused_said (taken_of state) (λ y. z (p.number ∙ y)),
)
  where
    refused_said : (found : Option Controller) → (of_held 16 (λ c. call_answer c call (length characters)) found ≡ 0 → ⊥)
        → of_held wrap (λ c. said_or (call_answer c call (length characters)) wrap (flag_number (call_wraps c call characters))) found ≡ wrap
    refused_said None y = refl
    refused_said (Some c) y = rw (ne_eqb (call_answer c call (length characters)) 0 y) refl
