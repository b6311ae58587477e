-- A transfer on eight lines and its two halves on four come out in one of three ways: refused with 16, refused with 1, or the byte acts.
use Prim.Native.Nat.{ℕ, ◌+◌, ◌*◌}
use lib.Dec.{T}
use mathlib.Core.Bool.{Bool, true, false, cond}
use mathlib.Core.Path.{◌≡◌, ◌∙◌, ap, refl, subst, sym}
use native.Mathlib.Omega.{arith}
use Rattle.bus.proofs.Free.{transfer_steps}
use Rattle.bus.proofs.Range.{range_kept}
use Rattle.bus.specs.Events.{told_by}
use Rattle.bus.specs.Theorems.{halved}
use Rattle.bus.specs.Transfer.{transfer_of}
use Rattle.condition.proofs.Tests.{holds}
use Rattle.controller.specs.Answers.{saying}
use Rattle.controller.specs.Memory.{display_after, character_after}
use Rattle.controller.specs.Part.{in_range}
use Rattle.controller.specs.Told.{Told, addressed, carried, unchanged}
use Rattle.controller.specs.declared.Controller.{Controller}
use Rattle.event.specs.declared.Event.TheVariants.{Transfer}
use Rattle.event.specs.declared.Kind.{Kind}
use Rattle.event.specs.declared.Kind.TheVariants.{InstructionWrite, DataWrite, StatusRead, DataRead}
use Rattle.halves.proofs.Waiting.{same_kind_agrees}
use Rattle.halves.specs.Halves.{upper, held_by, is_four, half_fits, is_first, disagrees, completed}
use Rattle.halves.specs.declared.Half.{Half}
use Rattle.halves.specs.declared.LineCount.TheVariants.{Eight, Four}
use Rattle.step.proofs.Joined.{read_rewired, busy_leaves_all, first_steps, act_steps}
use Rattle.step.specs.Acted.{read_from, acted}
use Rattle.step.specs.Data.{act}
use Rattle.step.specs.Step.{refused_busy, stepped}
use Rattle.wiring.specs.Words.{wired, HalvesOf, LikeHalves, second_of}

-- ---- refused with 16 or 1
module _ (c : Controller) (k : Kind) (n : ℕ) where
  refused_with_16 : in_range c.registers ≡ false → transfer_of c k n ≡ unchanged 16 c
  unfolding transfer_of
  refused_with_16 e = ap (λ (b : Bool). cond b (stepped c k n) (unchanged 16 c)) e

  refused_with_1 : in_range c.registers ≡ true → refused_busy c.registers k ≡ true → transfer_of c k n ≡ unchanged 1 c
  unfolding display_after character_after
  refused_with_1 e f = transfer_steps c k n (holds (in_range c.registers) e) ∙ ap (carried c) (busy_leaves_all c.registers k n (addressed c) f)

-- ---- the halves complete the byte
halves_join : (n first second : ℕ) → HalvesOf n first second → upper first * 16 + upper second ≡ n
halves_join n first second h = omega (arith, h.byte, h.upper_half, h.lower_half)

-- a read ignores its number
joined_acts : (c : Controller) (k : Kind) (n first second : ℕ) → LikeHalves k n first second
    → acted c k (completed Four (Half.Waiting k (held_by k first)) second) ≡ acted c k n
unfolding act completed
joined_acts c InstructionWrite n first second h = ap (acted c InstructionWrite) (halves_join n first second (h tt))
joined_acts c DataWrite n first second h = ap (acted c DataWrite) (halves_join n first second (h tt))
joined_acts c StatusRead n first second h = refl
joined_acts c DataRead n first second h = refl

-- ---- where neither is refused
-- what the part on four lines is told of the first half, where it waits
abbrev pub taken : Controller → Kind → (first : ℕ) → Told
taken c k first = record { said = saying 20 (upper (read_from c k) * 16); controller = halved (wired Four c) (Half.Waiting k (held_by k first)) }

pub by_equal : (P : (whole first second : Told) → Type 0) {w w' f f' s s' : Told} → w ≡ w' → f ≡ f' → s ≡ s' → P w' f' s' → P w f s
by_equal P d e g p = rw (d, e, g) p

module _ (c : Controller) (k : Kind) (n first second : ℕ) (like : LikeHalves k n first second) where
  abbrev eight : Controller
  eight = wired Eight c

  abbrev four : Controller
  four = wired Four c

  module _ (e : in_range eight.registers ≡ true) (free : refused_busy eight.registers k ≡ false) where
    whole_acts : transfer_of eight k n ≡ acted eight k n
    unfolding is_first is_four disagrees completed
    whole_acts = transfer_steps eight k n (holds (in_range eight.registers) e) ∙ sym (act_steps eight k n free refl refl refl refl)

    four_in_range : T (in_range four.registers)
    unfolding in_range half_fits
    four_in_range = holds (in_range eight.registers) e

    first_waits : transfer_of four k first ≡ taken c k first
    unfolding is_first is_four refused_busy
    first_waits =
        let read = ap (λ (v : ℕ). upper v * 16) (sym (read_rewired c.registers Four Half.Nothing k (addressed c))) in
        transfer_steps four k first four_in_range ∙ sym (first_steps four k first free refl refl read)

    second_acts : transfer_of (taken c k first).controller k second ≡ acted four k n
    unfolding is_first is_four disagrees refused_busy told_by
    second_acts =
        let t = subst (λ (x : Told). T (in_range x.controller.registers)) first_waits (range_kept (Transfer k first) four four_in_range) in
        transfer_steps (taken c k first).controller k second t
        ∙ sym (act_steps (taken c k first).controller k second free refl (same_kind_agrees Four k (held_by k first)) refl refl)
        ∙ joined_acts four k n first second like

  -- ---- the three ways
  module _ (P : (whole first second : Told) → Type 0) where
    by_told : {w f s : Told} → transfer_of eight k n ≡ w → transfer_of four k first ≡ f → transfer_of f.controller k second ≡ s → P w f s
        → P (transfer_of eight k n) (transfer_of four k first) (second_of four k first second)
    by_told d e g p = by_equal P d e (ap (λ (x : Told). transfer_of x.controller k second) e ∙ g) p

    pub of_halves : P (unchanged 16 eight) (unchanged 16 four) (unchanged 16 four) → P (unchanged 1 eight) (unchanged 1 four) (unchanged 1 four)
        → P (acted eight k n) (taken c k first) (acted four k n) → P (transfer_of eight k n) (transfer_of four k first) (second_of four k first second)
    unfolding in_range half_fits refused_busy
    of_halves p q r = by_tests (in_range eight.registers) (refused_busy eight.registers k) refl refl
      where
        by_tests : (t u : Bool) → in_range eight.registers ≡ t → refused_busy eight.registers k ≡ u
            → P (transfer_of eight k n) (transfer_of four k first) (second_of four k first second)
        by_tests false u e f = by_told (refused_with_16 eight k n e) (refused_with_16 four k first e) (refused_with_16 four k second e) p
        by_tests true true e f = by_told (refused_with_1 eight k n e f) (refused_with_1 four k first e f) (refused_with_1 four k second e f) q
        by_tests true false e f = by_told (whole_acts e f) (first_waits e f) (second_acts e f) r
