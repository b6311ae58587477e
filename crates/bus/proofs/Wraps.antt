-- An event says that the counter passed an end exactly when it is answered 0 and steps the counter past one.
use Prim.Native.Nat.{ℕ}
use lib.Dec.{eqb}
use mathlib.Core.Bool.{Bool, false, ◌&&◌}
use mathlib.Core.Path.{◌≡◌, ◌∙◌, ap, refl}
use Rattle.condition.proofs.Tests.{split}
use Rattle.controller.specs.Part.{passes_end}
use Rattle.controller.specs.Result.{Result}
use Rattle.controller.specs.Told.{Told, addressed}
use Rattle.controller.specs.declared.Controller.{Controller}
use Rattle.event.specs.declared.Event.TheVariants.{Transfer, Wait}
use Rattle.event.specs.declared.Kind.{Kind}
use Rattle.event.specs.declared.Kind.TheVariants.{InstructionWrite, DataWrite, StatusRead, DataRead}
use Rattle.instructions.proofs.Rows.{only_cursor_moves_pass}
use Rattle.instructions.specs.Instructions.{decode, row_of, obey}
use Rattle.step.specs.Data.{write_data, read_data, read_status, act}
use Rattle.step.specs.Step.{first_half}
use Rattle.bus.specs.Events.{told_by}
use Rattle.bus.specs.Refusals.{byte_of}
use Rattle.bus.specs.Theorems.{steps_counter, steps_up, passes, WrapExactly}
use Rattle.bus.specs.Transfer.{transfer_of}
use Rattle.bus.proofs.Numbers.{transfer_number}
use Rattle.bus.proofs.Outcomes.{of_step, of_transfer, of_wait}

module _ (c : Controller) (k : Kind) (n : ℕ) where
  -- the step of a transfer that is answered 0
  abbrev steps_past : Bool
  steps_past = steps_counter k (byte_of c.registers n) && passes_end (steps_up k c.registers (byte_of c.registers n)) c.registers

  ByStep : Told → Type 0
  ByStep t = t.said.wrap ≡ (eqb t.said.number 0 && steps_past)

  ResultByStep : Result → Type 0
  ResultByStep s = s.said.wrap ≡ (eqb s.said.number 0 && steps_past)

act_by_step : (c : Controller) (k : Kind) (n v : ℕ) → ResultByStep c k n (act k c.registers (byte_of c.registers n) v)
unfolding ResultByStep steps_counter steps_up act obey write_data read_status read_data
act_by_step c InstructionWrite n v =
    split (ResultByStep c InstructionWrite n) (row_of (decode (byte_of c.registers n)) c.registers).lacks
    (λ t. refl)
    (λ t. only_cursor_moves_pass (byte_of c.registers n) c.registers)
act_by_step c DataWrite n v = refl
act_by_step c StatusRead n v = refl
act_by_step c DataRead n v = refl

transfer_by_step : (c : Controller) (k : Kind) (n : ℕ) → ByStep c k n (transfer_of c k n)
unfolding ByStep ResultByStep first_half
transfer_by_step c k n =
    of_transfer (ByStep c k n) c k n
    (λ t. of_step (ResultByStep c k n) c.registers k n (addressed c) refl (act_by_step c k n) (λ v u. refl) refl)
    refl

pub wrap_exactly : WrapExactly
unfolding told_by passes ByStep
wrap_exactly (Transfer k n) c = transfer_by_step c k n ∙ ap (λ (m : ℕ). eqb m 0 && steps_past c k n) (transfer_number c k n)
wrap_exactly (Wait n) c = of_wait (λ t. t.said.wrap ≡ false) c n (λ t. refl) refl
