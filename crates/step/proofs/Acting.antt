-- A whole byte of each kind, from what the code leaves to what the rule says.
use Prim.Native.Nat.{ℕ}
use lib.Dec.{eqb}
use lib.ListN.{replicate}
use mathlib.Core.Bool.{Bool, true, false, cond}
use mathlib.Core.List.{List}
use mathlib.Core.Path.{◌≡◌, ◌∙◌, ap, refl, sym}
use Rattle.condition.proofs.Tests.{met}
use Rattle.controller.specs.Memory.{Change, store_at, display_after, character_after}
use Rattle.controller.specs.Part.{awaiting, with}
use Rattle.controller.specs.Result.{result_of}
use Rattle.controller.specs.Told.{told_with, addressed}
use Rattle.controller.specs.declared.Controller.{Controller}
use Rattle.controller.specs.declared.answer.Answer.TheVariants.{Done}
use Rattle.controller.specs.declared.effect.Effect.{Effect}
use Rattle.event.specs.declared.Kind.{Kind}
use Rattle.event.specs.declared.Kind.TheVariants.{InstructionWrite, DataWrite, StatusRead, DataRead}
use Rattle.halves.specs.Halves.{answered}
use Rattle.halves.specs.declared.Half.{Half}
use Rattle.instructions.proofs.Rows.{change_by_byte}
use Rattle.instructions.specs.Instructions.{decode, obey}
use Rattle.step.specs.Acted.{acted, stepped_to}
use Rattle.step.specs.Data.{shift_after, status_of, read_of, write_data, read_status, read_data, act}

-- ---- an instruction: only the byte 01 changes a memory
display_cleared : (b : Bool) (d : List ℕ) → cond b (replicate 80 0x20) d ≡ display_after (cond b Change.Clear Change.Nothing) d
unfolding display_after
display_cleared true d = refl
display_cleared false d = refl

character_stays : (b : Bool) (m : List ℕ) → m ≡ character_after (cond b Change.Clear Change.Nothing) m
unfolding character_after
character_stays true m = refl
character_stays false m = refl

module _ (c : Controller) {k : Kind} (n : ℕ) where
  pub instruction_acts : {d : List ℕ} (e : Effect) → k ≡ InstructionWrite → d ≡ cond (eqb n 0x01) (replicate 80 0x20) c.display
      → result_of e (obey (decode n) c.registers).change ≡ obey (decode n) c.registers → told_with d c.character e ≡ acted c k n
  unfolding act
  instruction_acts e f p q =
      let change = sym (change_by_byte n c.registers) in
      met (λ j. acted c j n) f (λ i. record {
        said = (q i).said;
        controller = with
            ((p ∙ display_cleared (eqb n 0x01) c.display ∙ ap (λ (x : Change). display_after x c.display) change) i)
            ((character_stays (eqb n 0x01) c.character ∙ ap (λ (x : Change). character_after x c.character) change) i)
            (q i).registers;
      })

  -- ---- data and status, where no half waits any more
  module _ (h : c.registers.half ≡ Half.Nothing) where
    pub write_acts : {d m : List ℕ} {e : Effect} → k ≡ DataWrite
        → (d ≡ display_after (store_at c.registers.mode.lines c.registers.counter n) c.display) × (m ≡ character_after (store_at c.registers.mode.lines c.registers.counter n) c.character)
        → e ≡ stepped_to (shift_after c.registers.counter c.registers) 0 c.registers → told_with d m e ≡ acted c k n
    unfolding act write_data
    write_acts f p q = met (λ j. acted c j n) f (rw (p.0, p.1, q, h))

    pub status_acts : {v : ℕ} → k ≡ StatusRead → v ≡ answered c.registers.bus (status_of c.registers)
        → told_with c.display c.character (record { registers = c.registers; answer = Done v; wrap = false }) ≡ acted c k n
    unfolding act read_status read_of display_after character_after
    status_acts f p = met (λ j. acted c j n) f (λ i. record {
      said = record { number = 0; value = p i; wrap = false };
      controller = with c.display c.character (awaiting c.registers (h i) c.registers.busy);
    })

    pub read_acts : {v : ℕ} {e : Effect} → k ≡ DataRead → v ≡ answered c.registers.bus (addressed c) → e ≡ stepped_to c.registers.shift v c.registers
        → told_with c.display c.character e ≡ acted c k n
    unfolding act read_data read_of display_after character_after
    read_acts f p q = met (λ j. acted c j n) f (rw (q, p, h))
