-- Busy time: after each answer what the table says, lowered by waits, and waited out by 3,750 ticks.
use Prim.Native.Nat.{ℕ, ◌-◌}
use borrow.Author.Tests.{eq-eqb}
use lib.Dec.{T, eqb}
use mathlib.Core.Bool.{Bool, false, cond, not, ◌&&◌}
use mathlib.Core.List.{List, [], ◌∷◌}
use mathlib.Core.Path.{◌≡◌, ◌∙◌, ap, refl, subst}
use native.Mathlib.Omega.{arith}
use Rattle.condition.proofs.Tests.{is_true, not_not, and_left, and_right, split}
use Rattle.condition.specs.First.{ExactlyFrom}
use Rattle.controller.proofs.Ranged.{InRange, facts}
use Rattle.controller.specs.Part.{waited, in_range}
use Rattle.controller.specs.Result.{Result}
use Rattle.controller.specs.Told.{Told, addressed, unchanged}
use Rattle.controller.specs.declared.Controller.{Controller}
use Rattle.controller.specs.declared.registers.Registers.{Registers}
use Rattle.event.specs.Kind.{is_status}
use Rattle.event.specs.declared.Event.TheVariants.{Wait}
use Rattle.event.specs.declared.Kind.{Kind}
use Rattle.event.specs.declared.Kind.TheVariants.{InstructionWrite, DataWrite, StatusRead, DataRead}
use Rattle.instructions.specs.Instructions.{decode, row_of, obey}
use Rattle.step.specs.Data.{write_data, read_data, read_status, act}
use Rattle.step.specs.Step.{first_half, refused_busy}
use Rattle.bus.specs.Events.{told_by, waits, sum}
use Rattle.bus.specs.Refusals.{byte_of}
use Rattle.bus.specs.Theorems.{busy_for, BusyByTable, WaitLowers, WaitedEnough}
use Rattle.bus.specs.Transfer.{waited_told, wait_of}
use Rattle.bus.proofs.Numbers.{transfer_given_exactly}
use Rattle.bus.proofs.Outcomes.{of_step, of_transfer, of_wait}
use Rattle.bus.proofs.Range.{range_kept}

module _ (c : Controller) (k : Kind) (n : ℕ) where
  ByTable : Told → Type 0
  ByTable t = t.controller.registers.busy ≡ cond (eqb t.said.number 0) (busy_for k c n) c.registers.busy

  StepByTable : Result → Type 0
  StepByTable s = s.registers.busy ≡ cond (eqb s.said.number 0) (busy_for k c n) c.registers.busy

act_by_table : (c : Controller) (k : Kind) (n v : ℕ) → StepByTable c k n (act k c.registers (byte_of c.registers n) v)
unfolding StepByTable busy_for act obey write_data read_status read_data
act_by_table c InstructionWrite n v =
    split (StepByTable c InstructionWrite n) (row_of (decode (byte_of c.registers n)) c.registers).lacks
    (λ t. refl)
    (λ t. refl)
act_by_table c DataWrite n v = refl
act_by_table c StatusRead n v = refl
act_by_table c DataRead n v = refl

pub busy_by_table : BusyByTable
unfolding ByTable StepByTable first_half
busy_by_table c k n =
    of_transfer (ByTable c k n) c k n
    (λ t. of_step (StepByTable c k n) c.registers k n (addressed c) refl (act_by_table c k n) (λ v u. refl) refl)
    refl

-- ---- waits
pub waited_told_lem : (c : Controller) (n : ℕ) → T (in_range c.registers) → wait_of c n ≡ waited_told c n
unfolding wait_of
waited_told_lem c n t = ap (λ (b : Bool). cond b (waited_told c n) (unchanged 16 c)) (is_true (in_range c.registers) t)

pub wait_lowers : WaitLowers
unfolding waited
wait_lowers c n t = ap (λ (x : Told). x.controller.registers.busy) (waited_told_lem c n t)

pub waits_kept : (ns : List ℕ) (c : Controller) → T (in_range c.registers) → T (in_range (waits ns c).registers)
unfolding waits told_by
waits_kept [] c t = t
waits_kept (n ∷ ns) c t = waits_kept ns (wait_of c n).controller (range_kept (Wait n) c t)

pub waits_lower : (ns : List ℕ) (c : Controller) → T (in_range c.registers) → (waits ns c).registers.busy ≡ c.registers.busy - sum ns
unfolding waits told_by
waits_lower [] c t = omega arith
waits_lower (n ∷ ns) c t =
    let e : (wait_of c n).controller.registers.busy ≡ c.registers.busy - n = wait_lowers c n t in
    waits_lower ns (wait_of c n).controller (range_kept (Wait n) c t) ∙ omega arith

-- waits do not bring a controller into range
InRangeBefore : Controller → Told → Type 0
InRangeBefore c t = T (in_range t.controller.registers) → T (in_range c.registers)

in_range_before : (ns : List ℕ) (c : Controller) → T (in_range (waits ns c).registers) → T (in_range c.registers)
unfolding waits InRangeBefore
in_range_before [] c t = t
in_range_before (n ∷ ns) c t =
    of_wait (InRangeBefore c) c n (λ u v. u) (λ v. v) (in_range_before ns (wait_of c n).controller t)

-- a part that is not busy refuses nothing with 1
pub idle_free : (r : Registers) (k : Kind) → r.busy ≡ 0 → refused_busy r k ≡ false
unfolding refused_busy
idle_free r k e = ap (λ (x : Bool). not x && not (is_status k)) (eq-eqb r.busy 0 e)

pub waited_enough : WaitedEnough
unfolding ExactlyFrom
waited_enough c ns h k n e =
    let after : Controller = waits ns c in
    let on = (transfer_given_exactly after k n).1.0.0 e in
    let t = in_range_before ns c (not_not (in_range after.registers) (and_left (not (not (in_range after.registers))) (refused_busy after.registers k) on)) in
    let f : InRange c.registers = facts c.registers t in
    let z : after.registers.busy ≡ 0 = waits_lower ns c t ∙ omega arith in
    subst T (idle_free after.registers k z) (and_right (not (not (in_range after.registers))) (refused_busy after.registers k) on)
