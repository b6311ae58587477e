-- From the writes as they are given, with their waits and the test of the range, to a chain of steps of the registers.
use Prim.Native.Nat.{ℕ, suc, ◌+◌, ◌*◌, ◌<◌}
use lib.Dec.{T}
use mathlib.Core.List.{List, [], ◌∷◌}
use mathlib.Core.Path.{◌≡◌, ◌∙◌, ap, subst⁻¹}
use native.Mathlib.Omega.{arith}
use Rattle.bus.proofs.Free.{freed, with_busy, waits_only_busy, transfer_steps}
use Rattle.bus.proofs.Range.{step_in_range}
use Rattle.bus.specs.Events.{waits}
use Rattle.bus.specs.Transfer.{transfer_of}
use Rattle.condition.proofs.Tests.{is_true, holds}
use Rattle.controller.proofs.Ranged.{InRange, facts, test}
use Rattle.controller.specs.Memory.{Change, display_after, character_after}
use Rattle.controller.specs.Part.{in_range}
use Rattle.controller.specs.Result.{Result}
use Rattle.controller.specs.Told.{Told, addressed, carried}
use Rattle.controller.specs.declared.Controller.{Controller}
use Rattle.controller.specs.declared.registers.Registers.{Registers}
use Rattle.event.specs.declared.Kind.TheVariants.{InstructionWrite}
use Rattle.step.specs.Step.{result_for}
use Rattle.restart.specs.Compared.{Holds}
use Rattle.restart.specs.Writes.{Write, told_of, Given, after, AtEach}

-- the step that a write with the upper lines h and the lower lines l comes to, the busy time waited out
abbrev pub step_with : ℕ → ℕ → ℕ → Registers → Result
step_with h l b r = result_for (freed r) InstructionWrite (h * 16 + l) b

freed_in_range : (r : Registers) → T (in_range r) → T (in_range (freed r))
freed_in_range r t =
    let f : InRange r = facts r t in
    test (freed r) (record { counter = f.counter; shift = f.shift; half = f.half; busy = omega arith })

-- every chain of writes with the upper lines hs leads from r to Q; no memory is changed on the way, and the answers are as A says
unfoldable pub Leads : (A : ℕ → ℕ → Type 0) (Q : Registers → Type 0) → ℕ → List ℕ → Registers → Type 0
Leads A Q i [] r = Q r
Leads A Q i (h ∷ hs) r =
    (l b : ℕ) → l < 16
    → ((step_with h l b r).change ≡ Change.Nothing) × A i (step_with h l b r).said.number × Leads A Q (suc i) hs (step_with h l b r).registers

-- a write that is given is such a step
told_of_steps : (h : ℕ) (w : Write) (c : Controller) → T (in_range c.registers) → (waits w.before c).registers.busy ≡ 0
    → told_of h w c ≡ carried c (step_with h w.lower (addressed c) c.registers)
unfolding told_of
told_of_steps h w c t e =
    ap (λ (x : Controller). transfer_of x InstructionWrite (h * 16 + w.lower))
    (waits_only_busy w.before c t ∙ ap (with_busy c) e)
    ∙ transfer_steps (with_busy c 0) InstructionWrite (h * 16 + w.lower) (freed_in_range c.registers t)

-- what is known after a chain of writes that were given to c
pub record Came (A : ℕ → ℕ → Type 0) (Q : Registers → Type 0) (c₀ : Controller) (i : ℕ) (hs : List ℕ) (ws : List Write) (c : Controller) : Type 0 where
  pub memories : AtEach (λ j t. Holds c₀ t) i hs ws c
  pub answers : AtEach (λ j t. A j t.said.number) i hs ws c
  pub display : (after hs ws c).display ≡ c₀.display
  pub character : (after hs ws c).character ≡ c₀.character
  pub registers : Q (after hs ws c).registers

module _ (A : ℕ → ℕ → Type 0) (Q : Registers → Type 0) (c₀ : Controller) where
  pub leads_to : (i : ℕ) (hs : List ℕ) (ws : List Write) (c : Controller) → T (in_range c.registers) → c.display ≡ c₀.display
      → c.character ≡ c₀.character → Leads A Q i hs c.registers → Given hs ws c → Came A Q c₀ i hs ws c
  unfolding Leads Given AtEach after display_after character_after
  leads_to i [] [] c t d m p g = record { memories = tt; answers = tt; display = d; character = m; registers = p }
  leads_to i [] (w ∷ ws) c t d m p g = absurd g
  leads_to i (h ∷ hs) [] c t d m p g = absurd g
  leads_to i (h ∷ hs) (w ∷ ws) c t d m p g =
      let s : Result = step_with h w.lower (addressed c) c.registers in
      let q = p w.lower (addressed c) g.0 in
      let e : told_of h w c ≡ carried c s = told_of_steps h w c t g.1 in
      let d' : (told_of h w c).controller.display ≡ c₀.display =
      ap (λ (x : Told). x.controller.display) e ∙ ap (λ (x : Change). display_after x c.display) q.0 ∙ d in
      let m' : (told_of h w c).controller.character ≡ c₀.character =
      ap (λ (x : Told). x.controller.character) e ∙ ap (λ (x : Change). character_after x c.character) q.0 ∙ m in
      let r' : (told_of h w c).controller.registers ≡ s.registers = ap (λ (x : Told). x.controller.registers) e in
      let t' : T (in_range s.registers) =
      holds _ (step_in_range (freed c.registers) InstructionWrite (h * 16 + w.lower) (addressed c) (is_true _ (freed_in_range c.registers t))) in
      let rest : Came A Q c₀ (suc i) hs ws (told_of h w c).controller =
      leads_to (suc i) hs ws (told_of h w c).controller (subst⁻¹ (λ (x : Registers). T (in_range x)) r' t') d' m'
      (subst⁻¹ (Leads A Q (suc i) hs) r' q.2) g.2 in
      record {
        memories = (record { display = d'; character = m' }, rest.memories);
        answers = (subst⁻¹ (A i) (ap (λ (x : Told). x.said.number) e) q.1, rest.answers);
        display = rest.display;
        character = rest.character;
        registers = rest.registers;
      }
