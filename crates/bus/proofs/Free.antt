-- An instruction write to a part that is free: what it comes to on eight lines, and on four by the half that waits.
use Prim.Native.Nat.{ℕ, ◌+◌, ◌*◌}
use lib.Dec.{T}
use mathlib.Core.Bool.{Bool, false, cond}
use mathlib.Core.List.{List, [], ◌∷◌}
use mathlib.Core.Path.{◌≡◌, ◌∙◌, ap, refl, sym}
use Rattle.condition.proofs.Tests.{is_true}
use Rattle.controller.specs.Part.{awaiting, with, waited, in_range}
use Rattle.controller.specs.Result.{forgotten, leaving}
use Rattle.controller.specs.Told.{Told, unchanged}
use Rattle.controller.specs.declared.Controller.{Controller}
use Rattle.controller.specs.declared.registers.Registers.{Registers}
use Rattle.event.specs.Kind.{alike}
use Rattle.event.specs.declared.Event.TheVariants.{Wait}
use Rattle.event.specs.declared.Kind.{Kind}
use Rattle.event.specs.declared.Kind.TheVariants.{InstructionWrite}
use Rattle.halves.specs.Halves.{upper}
use Rattle.halves.specs.declared.Half.{Half}
use Rattle.halves.specs.declared.LineCount.{LineCount}
use Rattle.halves.specs.declared.LineCount.TheVariants.{Eight, Four}
use Rattle.instructions.specs.Instructions.{decode, obey}
use Rattle.step.specs.Data.{read_of, act}
use Rattle.step.specs.Step.{first_half, second_half, on_four, on_bus, refused_busy, result_for, stepped}
use Rattle.bus.specs.Events.{told_by, waits}
use Rattle.bus.specs.Transfer.{transfer_of, wait_of}
use Rattle.bus.proofs.Busy.{idle_free, waited_told_lem}
use Rattle.bus.proofs.Range.{range_kept}

-- ---- waits change nothing but the busy time
abbrev pub freed : Registers → Registers
freed r = awaiting r r.half 0

abbrev pub with_busy : Controller → ℕ → Controller
with_busy c t = with c.display c.character (awaiting c.registers c.registers.half t)

pub waits_only_busy : (ns : List ℕ) (c : Controller) → T (in_range c.registers) → waits ns c ≡ with_busy c (waits ns c).registers.busy
unfolding waits waited told_by
waits_only_busy [] c t = refl
waits_only_busy (n ∷ ns) c t =
    let e : (wait_of c n).controller ≡ with_busy c (wait_of c n).controller.registers.busy = one in
    waits_only_busy ns (wait_of c n).controller (range_kept (Wait n) c t)
    ∙ ap (λ (x : Controller). with_busy x (waits ns (wait_of c n).controller).registers.busy) e
  where
    one : (wait_of c n).controller ≡ with_busy c (wait_of c n).controller.registers.busy
    one =
        ap (λ (x : Told). x.controller) (waited_told_lem c n t)
        ∙ ap (λ (x : Told). with_busy c x.controller.registers.busy) (sym (waited_told_lem c n t))

-- ---- a transfer of a controller in range is a step of its registers
pub transfer_steps : (c : Controller) (k : Kind) (n : ℕ) → T (in_range c.registers) → transfer_of c k n ≡ stepped c k n
unfolding transfer_of
transfer_steps c k n t = ap (λ (b : Bool). cond b (stepped c k n) (unchanged 16 c)) (is_true (in_range c.registers) t)

-- ---- a transfer that is not refused with 1
module _ (r : Registers) (k : Kind) (n b : ℕ) (free : refused_busy r k ≡ false) where
  free_bus : result_for r k n b ≡ on_bus r.bus k r n (read_of k r b)
  unfolding result_for
  free_bus = ap (λ (x : Bool). cond x (leaving 1 r) (on_bus r.bus k r n (read_of k r b))) free

  -- on eight lines the byte acts
  pub eight_acts : r.bus ≡ Eight → result_for r k n b ≡ act k r n (read_of k r b)
  unfolding on_bus
  eight_acts e = free_bus ∙ ap (λ (x : LineCount). on_bus x k r n (read_of k r b)) e

  -- on four by the half that waits
  pub four_acts : (h : Half) → r.bus ≡ Four → r.half ≡ h → result_for r k n b ≡ on_four h k r n (read_of k r b)
  unfolding on_bus
  four_acts h e f =
      free_bus ∙ ap (λ (x : LineCount). on_bus x k r n (read_of k r b)) e ∙ ap (λ (x : Half). on_four x k r n (read_of k r b)) f

-- ---- one instruction write
module _ (r : Registers) (n b : ℕ) where
  -- the part is free, so nothing is refused with 1
  freed_free : refused_busy (freed r) InstructionWrite ≡ false
  freed_free = idle_free (freed r) InstructionWrite refl

  -- on eight lines the byte acts
  pub on_eight : r.bus ≡ Eight → result_for (freed r) InstructionWrite n b ≡ obey (decode n) (freed r)
  unfolding act
  on_eight e = eight_acts (freed r) InstructionWrite n b freed_free e

  -- on four lines with no half, the first half waits
  pub first_waits : r.bus ≡ Four → r.half ≡ Half.Nothing → result_for (freed r) InstructionWrite n b ≡ first_half InstructionWrite (freed r) n 0
  unfolding on_four read_of
  first_waits e f = four_acts (freed r) InstructionWrite n b freed_free Half.Nothing e f

  -- the half of an instruction is completed
  pub second_completes : (u : ℕ) → r.bus ≡ Four → r.half ≡ Half.Waiting InstructionWrite u
      → result_for (freed r) InstructionWrite n b ≡ obey (decode (u * 16 + upper n)) (freed r)
  unfolding on_four second_half act
  second_completes u e f = four_acts (freed r) InstructionWrite n b freed_free (Half.Waiting InstructionWrite u) e f

  -- a half of another kind is forgotten
  pub other_disagrees : (w : Kind) (u : ℕ) → alike w InstructionWrite ≡ false → r.bus ≡ Four → r.half ≡ Half.Waiting w u
      → result_for (freed r) InstructionWrite n b ≡ forgotten 2 (freed r)
  unfolding on_four second_half
  other_disagrees w u a e f = four_acts (freed r) InstructionWrite n b freed_free (Half.Waiting w u) e f ∙ rw a
