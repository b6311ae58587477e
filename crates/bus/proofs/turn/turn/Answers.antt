-- A transfer or a wait, as the event says; the range is kept.
use Rattle.std.proofs.Common.{◌≡◌, ◌∙◌, ap, sym, ℕ, List, T, true, false}
use mathlib.Core.Path.{subst⁻¹}
use Rattle.condition.proofs.Tests.{holds, is_true}
use Rattle.controller.specs.Part.{with, waited, in_range}
use Rattle.controller.specs.Told.{Told, told_with}
use Rattle.controller.specs.declared.Controller.{Controller}
use Rattle.controller.specs.declared.answer.Answer.TheVariants.{Done}
use Rattle.controller.specs.declared.effect.Effect.{Effect}
use Rattle.controller.specs.declared.registers.Registers.{Registers}
use Rattle.event.specs.declared.Event.{Event}
use Rattle.bus.specs.Events.{told_by}
use Rattle.bus.specs.Transfer.{wait_of}
use Rattle.bus.proofs.Busy.{waited_told_lem}
use Rattle.bus.proofs.Range.{range_kept}
use Rattle.bus.proofs.turn.turn.Goals as goal

gave : (c : Controller) (t : Effect) {event met : Event} {d m : List ℕ} → in_range c.registers ≡ true → event ≡ met → told_with d m t ≡ told_by met c
    → (told_with d m t ≡ told_by event c) × (in_range t.registers ≡ true)
gave c t {met = met} u e p = (
  p ∙ ap (λ (x : Event). told_by x c) (sym e),
  is_true _ (subst⁻¹ (λ (x : Told). T (in_range x.controller.registers)) p (range_kept met c (holds _ u))),
)

waited_out : (c : Controller) (n : ℕ) {r : Registers} → in_range c.registers ≡ true → r ≡ waited c.registers n
    → told_with c.display c.character (record { registers = r; answer = Done 0; wrap = false }) ≡ wait_of c n
waited_out c n u e =
    ap (λ (x : Registers). told_with c.display c.character (record { registers = x; answer = Done 0; wrap = false })) e
    ∙ sym (waited_told_lem c n (holds _ u))

pub returns-in-Transfer : goal.returns-in-Transfer
unfolding told_by
returns-in-Transfer c =
    gave (with c.args.display.now c.args.character.now c.args.registers) c.transferred-effect.result c.requires c.in-Transfer.is c.transferred-effect.ensures

pub returns-in-Wait : goal.returns-in-Wait
unfolding told_by
returns-in-Wait c =
    gave (with c.args.display.now c.args.character.now c.args.registers) (record { registers = c.waited-after.result; answer = Done 0; wrap = false }) c.requires c.in-Wait.is
    (waited_out (with c.args.display.now c.args.character.now c.args.registers) _ c.requires c.waited-after.ensures)
