-- Each number of a transfer and of a wait is that of the first rule whose condition holds.
use Prim.Native.Nat.{ℕ}
use mathlib.Core.Bool.{Bool, true, false, cond, not}
use mathlib.Core.Path.{◌≡◌, ◌∙◌, ap, refl, subst⁻¹}
use Rattle.condition.proofs.First.{first_given_exactly}
use Rattle.condition.specs.First.{first_of, Exactly, absent, distinct}
use Rattle.controller.specs.Part.{in_range}
use Rattle.controller.specs.Result.{Result}
use Rattle.controller.specs.Told.{Told, addressed}
use Rattle.controller.specs.declared.Controller.{Controller}
use Rattle.controller.specs.declared.registers.Registers.{Registers}
use Rattle.event.specs.declared.Kind.{Kind}
use Rattle.event.specs.declared.Kind.TheVariants.{InstructionWrite, DataWrite, StatusRead, DataRead}
use Rattle.halves.specs.Halves.{is_first, disagrees, answered}
use Rattle.instructions.specs.Instructions.{decode, row_of, obey}
use Rattle.step.proofs.Joined.{bus_joined}
use Rattle.step.specs.Data.{write_data, read_data, read_status, read_of, act}
use Rattle.step.specs.Step.{first_half, on_bus, refused_busy, result_for}
use Rattle.bus.specs.Refusals.{byte_of, lacks_address, transfer_rules, wait_rules}
use Rattle.bus.specs.Theorems.{TransferGivenExactly, WaitGivenExactly}
use Rattle.bus.specs.Transfer.{transfer_of, wait_of}

-- ---- the number of a transfer
-- a choice between two results, seen by its number
chosen : (b : Bool) (s t : Result) (m n : ℕ) → s.said.number ≡ m → t.said.number ≡ n → (cond b s t).said.number ≡ cond b m n
chosen true s t m n e f = e
chosen false s t m n e f = f

module _ (r : Registers) (k : Kind) (n v : ℕ) where
  act_number : (j : Kind) (x : ℕ) → (act j r (byte_of r n) x).said.number ≡ cond (lacks_address j r n) 3 0
  unfolding act obey lacks_address write_data read_status read_data
  act_number InstructionWrite x = chosen (row_of (decode (byte_of r n)) r).lacks _ _ 3 0 refl refl
  act_number DataWrite x = refl
  act_number StatusRead x = refl
  act_number DataRead x = refl

  bus_number : (on_bus r.bus k r n v).said.number
      ≡ cond (disagrees r.bus r.half k) 2 (cond (is_first r.bus r.half) 20 (cond (lacks_address k r n) 3 0))
  unfolding first_half
  bus_number =
      ap (λ (s : Result). s.said.number) (bus_joined k r n v r.bus)
      ∙ chosen (disagrees r.bus r.half k) _ _ 2 _ refl (chosen (is_first r.bus r.half) _ _ 20 _ refl (act_number k (answered r.bus v)))

-- a controller in range, or 16
told_number : (b : Bool) (s t : Told) (m : ℕ) → s.said.number ≡ m → t.said.number ≡ 16 → (cond b s t).said.number ≡ cond (not b) 16 m
told_number true s t m e f = e
told_number false s t m e f = f

pub transfer_number : (c : Controller) (k : Kind) (n : ℕ) → (transfer_of c k n).said.number ≡ first_of (transfer_rules c k n) 0
unfolding transfer_of first_of result_for
transfer_number c k n =
    let r = c.registers in
    told_number (in_range r) _ _ _ (chosen (refused_busy r k) _ _ 1 _ refl (bus_number r k n (read_of k r (addressed c)))) refl

wait_number : (c : Controller) (n : ℕ) → (wait_of c n).said.number ≡ first_of (wait_rules c) 0
unfolding wait_of first_of
wait_number c n = told_number (in_range c.registers) _ _ 0 refl refl

-- ---- the theorems
pub transfer_given_exactly : TransferGivenExactly
unfolding distinct absent
transfer_given_exactly c k n =
    subst⁻¹ (λ m. Exactly m (transfer_rules c k n) 0) (transfer_number c k n) (first_given_exactly (transfer_rules c k n) 0 tt)

pub wait_given_exactly : WaitGivenExactly
unfolding distinct absent
wait_given_exactly c n = subst⁻¹ (λ m. Exactly m (wait_rules c) 0) (wait_number c n) (first_given_exactly (wait_rules c) 0 tt)
