-- A data read never moves the display; a status read changes nothing but a half.
use mathlib.Core.Path.{◌≡◌, refl}
use Rattle.controller.specs.Memory.{display_after, character_after}
use Rattle.controller.specs.Told.{Told, addressed, carried}
use Rattle.controller.specs.declared.Controller.{Controller}
use Rattle.event.specs.declared.Kind.TheVariants.{StatusRead, DataRead}
use Rattle.step.specs.Data.{read_data, read_status, act}
use Rattle.step.specs.Step.{first_half}
use Rattle.bus.specs.Theorems.{halved, DataReadNeverMoves, StatusReadChangesOnlyHalf}
use Rattle.bus.proofs.Outcomes.{of_step, of_transfer}

module _ (c : Controller) where
  Unmoved : Told → Type 0
  Unmoved t = t.controller.registers.shift ≡ c.registers.shift

  OnlyHalf : Told → Type 0
  OnlyHalf t = t.controller ≡ halved c t.controller.registers.half

pub data_read_never_moves : DataReadNeverMoves
unfolding Unmoved act read_data first_half
data_read_never_moves c n =
    of_transfer (Unmoved c) c DataRead n
    (λ t. of_step (λ s. Unmoved c (carried c s)) c.registers DataRead n (addressed c) refl (λ v. refl) (λ v u. refl) refl)
    refl

pub status_read_changes_only_half : StatusReadChangesOnlyHalf
unfolding OnlyHalf act read_status first_half display_after character_after
status_read_changes_only_half c n =
    of_transfer (OnlyHalf c) c StatusRead n
    (λ t. of_step (λ s. OnlyHalf c (carried c s)) c.registers StatusRead n (addressed c) refl (λ v. refl) (λ v u. refl) refl)
    refl
