-- What a refusal leaves: 16 and 1 the whole state, 2 and 3 all but the half.
use Prim.Native.Nat.{ℕ}
use mathlib.Core.Logic.{◌⊎◌, ⊎_elim, inl, inr}
use mathlib.Core.Path.{◌≡◌, refl}
use native.Mathlib.Omega.{arith}
use Rattle.controller.specs.Memory.{display_after, character_after}
use Rattle.controller.specs.Result.{Result}
use Rattle.controller.specs.Told.{Told, addressed, carried}
use Rattle.controller.specs.declared.Controller.{Controller}
use Rattle.event.specs.declared.Event.TheVariants.{Transfer, Wait}
use Rattle.event.specs.declared.Kind.{Kind}
use Rattle.halves.specs.declared.Half.{Half}
use Rattle.step.specs.Data.{write_data, read_data, read_status}
use Rattle.step.specs.Step.{first_half, result_for}
use Rattle.bus.specs.Events.{told_by}
use Rattle.bus.specs.Refusals.{byte_of}
use Rattle.bus.specs.Theorems.{halved, Leaves, RefusalLeaves}
use Rattle.bus.proofs.Outcomes.{Ways, of_act, of_step, of_transfer, of_wait}

module _ (c : Controller) where
  -- what is answered 0 or 20 is no refusal
  not_refused_lem : (t : Told) → (t.said.number ≡ 0) ⊎ (t.said.number ≡ 20) → Leaves c t
  not_refused_lem t (inl e) = record {
    whole = ⊎_elim (λ p. absurd (omega arith)) (λ p. absurd (omega arith));
    but_half = ⊎_elim (λ p. absurd (omega arith)) (λ p. absurd (omega arith));
    no_value = λ p q. absurd (p e);
  }
  not_refused_lem t (inr e) = record {
    whole = ⊎_elim (λ p. absurd (omega arith)) (λ p. absurd (omega arith));
    but_half = ⊎_elim (λ p. absurd (omega arith)) (λ p. absurd (omega arith));
    no_value = λ p q. absurd (q e);
  }

  -- 16 and 1
  left_whole : (t : Told) → t.controller ≡ c → t.said.value ≡ 0 → (t.said.number ≡ 16) ⊎ (t.said.number ≡ 1) → Leaves c t
  left_whole t e v n = record {
    whole = λ p. e;
    but_half = λ p. absurd (⊎_elim (λ a. ⊎_elim (λ b. omega arith) (λ b. omega arith) p) (λ a. ⊎_elim (λ b. omega arith) (λ b. omega arith) p) n);
    no_value = λ p q. v;
  }

  -- 2 and 3
  left_but_half : (t : Told) → t.controller ≡ halved c Half.Nothing → t.said.value ≡ 0 → (t.said.number ≡ 2) ⊎ (t.said.number ≡ 3) → Leaves c t
  left_but_half t e v n = record {
    whole = λ p. absurd (⊎_elim (λ a. ⊎_elim (λ b. omega arith) (λ b. omega arith) p) (λ a. ⊎_elim (λ b. omega arith) (λ b. omega arith) p) n);
    but_half = λ p. e;
    no_value = λ p q. v;
  }

  Left : Result → Type 0
  Left s = Leaves c (carried c s)

  ways : Ways Left c.registers
  unfolding Left write_data read_status read_data display_after character_after
  ways = record {
    obeyed = λ n t. not_refused_lem _ (inl refl);
    lacking = left_but_half _ refl refl (inr refl);
    written = λ n. not_refused_lem _ (inl refl);
    status = λ v. not_refused_lem _ (inl refl);
    read = λ v. not_refused_lem _ (inl refl);
  }

  step_leaves : (k : Kind) (n b : ℕ) → Left (result_for c.registers k n b)
  unfolding Left first_half display_after character_after
  step_leaves k n b =
      of_step Left c.registers k n b (left_whole _ refl refl (inr refl))
      (of_act Left c.registers ways k (byte_of c.registers n))
      (λ v t. not_refused_lem _ (inr refl))
      (left_but_half _ refl refl (inl refl))

pub refusal_leaves : RefusalLeaves
unfolding told_by Left
refusal_leaves (Transfer k n) c =
    of_transfer (Leaves c) c k n (λ t. step_leaves c k n (addressed c)) (left_whole c _ refl refl (inl refl))
refusal_leaves (Wait n) c = of_wait (Leaves c) c n (λ t. not_refused_lem c _ (inl refl)) (left_whole c _ refl refl (inl refl))
