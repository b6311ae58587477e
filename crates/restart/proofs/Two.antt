-- A wait and a write as the bytes of two events.
use Prim.Native.Nat.{ℕ, ◌+◌, ◌*◌, ◌≤◌}
use lib.ListN.{length}
use mathlib.Core.Bool.{true}
use mathlib.Core.List.{List, [], ◌∷◌}
use mathlib.Core.Option.{Option, some}
use mathlib.Core.Path.{◌≡◌, refl, ap, ◌∙◌}
use native.Mathlib.Omega.{arith}
use Rattle.bus.proofs.Range.{events_kept}
use Rattle.bus.specs.Events.{told_by, after_events, waits}
use Rattle.condition.proofs.Tests.{is_true, holds}
use Rattle.controller.specs.Part.{in_range}
use Rattle.controller.specs.declared.Controller.{Controller}
use Rattle.event.specs.declared.Event.{Event}
use Rattle.event.specs.declared.Event.TheVariants.{Transfer, Wait}
use Rattle.event.specs.declared.Kind.TheVariants.{InstructionWrite}
use Rattle.record.proofs.Meanings.{write_means}
use Rattle.record.specs.Event.{event_of}
use Rattle.record.specs.Record.{before, front_events}
use Rattle.run.specs.Promises.{Runnable}
use Rattle.restart.specs.Writes.{patiently, told_of}

module _ (value : ℕ) (small : value ≤ 255) where
  abbrev bytes : List ℕ
  bytes = 4 ∷ 14 ∷ 166 ∷ 0 ∷ 0 ∷ value ∷ []

  written : event_of 0 (0 * 256 + value) ≡ some (Transfer InstructionWrite value)
  written = let own : 0 * 256 + value ≡ value = omega arith in rw own (write_means 0 value (omega arith) small)

  two : front_events bytes ≡ Wait 3750 ∷ Transfer InstructionWrite value ∷ []
  unfolding front_events event_of
  two = ap (λ (found : Option Event). Wait 3750 ∷ before found []) written

  pub two_runnable : (c : Controller) (answers : List ℕ) → in_range c.registers ≡ true → 6 ≤ length answers → Runnable c bytes answers
  two_runnable c answers ranged room = record { ranged = ranged; whole = rw two refl; room = rw two room }

  pub two_leave : (c after : Controller) → in_range c.registers ≡ true → after ≡ after_events (front_events bytes) c
      → (after ≡ after_events (Wait 3750 ∷ Transfer InstructionWrite value ∷ []) c) × (in_range after.registers ≡ true)
  two_leave c after ranged e =
      (rw two at e, ap (λ (k : Controller). in_range k.registers) e ∙ is_true _ (events_kept (front_events bytes) c (holds _ ranged)))

-- they are a write of the restart
pub two_told : (upper lower : ℕ) (c : Controller) → after_events (Wait 3750 ∷ Transfer InstructionWrite (upper * 16 + lower) ∷ []) c ≡ (told_of upper (patiently lower) c).controller
unfolding after_events told_by told_of waits
two_told upper lower c = refl
