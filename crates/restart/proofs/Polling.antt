-- On four lines with no half waiting, a poll changes nothing; and the restart leaves the part so between its bytes.
use Prim.Native.Nat.{ℕ, ◌+◌, ◌*◌}
use lib.Dec.{T, eqb}
use lib.ListN.{take}
use mathlib.Core.Bool.{false, not, and-false}
use mathlib.Core.List.{[], ◌∷◌}
use mathlib.Core.Path.{◌≡◌, ◌∙◌, ap, refl, subst, subst⁻¹, sym}
use Rattle.bus.proofs.Busy.{waited_told_lem}
use Rattle.bus.proofs.Free.{transfer_steps, four_acts}
use Rattle.bus.proofs.Range.{range_kept}
use Rattle.bus.specs.Events.{told_by, after_events, waits}
use Rattle.bus.specs.Transfer.{transfer_of, wait_of}
use Rattle.controller.proofs.Ranged.{facts}
use Rattle.controller.specs.Memory.{display_after, character_after}
use Rattle.controller.specs.Part.{awaiting, with, waited, in_range}
use Rattle.controller.specs.Result.{Result}
use Rattle.controller.specs.Told.{Told, addressed, carried}
use Rattle.controller.specs.declared.Controller.{Controller}
use Rattle.controller.specs.declared.registers.Registers.{Registers}
use Rattle.event.specs.declared.Event.TheVariants.{Transfer, Wait}
use Rattle.event.specs.declared.Kind.TheVariants.{StatusRead}
use Rattle.halves.specs.declared.Half.{Half}
use Rattle.step.specs.Data.{read_status, act}
use Rattle.step.specs.Step.{first_half, second_half, on_four, refused_busy}
use Rattle.restart.specs.Polling.{Poll, Ticks, pause_events, pause_ticks, Calm, PollsAreWaits, CalmBetweenBytes}
use Rattle.restart.specs.Writes.{halves}
use Rattle.restart.proofs.Leads.{leads_to}
use Rattle.restart.proofs.Restarting.{Allowed, calm_leads}

-- ---- a status read is never refused with 1
status_free : (r : Registers) → refused_busy r StatusRead ≡ false
unfolding refused_busy
status_free r = and-false (not (eqb r.busy 0))

-- ---- a poll: a status read as two like halves
halfway : Controller → Controller
halfway c = with c.display c.character (awaiting c.registers (Half.Waiting StatusRead 0) c.registers.busy)

module _ (c : Controller) (t : T (in_range c.registers)) (calm : Calm c.registers) where
  first_poll : (n : ℕ) → (transfer_of c StatusRead n).controller ≡ halfway c
  unfolding halfway on_four first_half display_after character_after
  first_poll n =
      ap (λ (x : Told). x.controller) (transfer_steps c StatusRead n t)
      ∙ ap (λ (s : Result). (carried c s).controller) (four_acts c.registers StatusRead n (addressed c) (status_free c.registers) Half.Nothing calm.four calm.nothing_waits)

  halfway_in_range : T (in_range (halfway c).registers)
  unfolding told_by
  halfway_in_range = subst (λ (x : Controller). T (in_range x.registers)) (first_poll 0) (range_kept (Transfer StatusRead 0) c t)

  second_poll : (n : ℕ) → (transfer_of (halfway c) StatusRead n).controller ≡ c
  unfolding halfway on_four second_half act read_status display_after character_after
  second_poll n =
      ap (λ (x : Told). x.controller) (transfer_steps (halfway c) StatusRead n halfway_in_range)
      ∙ ap (λ (s : Result). (carried (halfway c) s).controller)
      (four_acts (halfway c).registers StatusRead n (addressed (halfway c)) (status_free (halfway c).registers) (Half.Waiting StatusRead 0) calm.four refl)
      ∙ ap (λ (h : Half). with c.display c.character (awaiting c.registers h c.registers.busy)) (sym calm.nothing_waits)

  poll_changes_nothing : (n m : ℕ) → (transfer_of (transfer_of c StatusRead n).controller StatusRead m).controller ≡ c
  poll_changes_nothing n m = ap (λ (x : Controller). (transfer_of x StatusRead m).controller) (first_poll n) ∙ second_poll m

-- ---- polls and waits
waited_calm : (c : Controller) (n : ℕ) → T (in_range c.registers) → Calm c.registers → Calm (wait_of c n).controller.registers
unfolding waited
waited_calm c n t calm = subst⁻¹ (λ (x : Told). Calm x.controller.registers) (waited_told_lem c n t) (record { four = calm.four; nothing_waits = calm.nothing_waits })

pub polls_are_waits : PollsAreWaits
unfolding pause_events pause_ticks after_events told_by waits
polls_are_waits c t calm [] = refl
polls_are_waits c t calm (Poll n m ∷ ps) =
    ap (after_events (pause_events ps)) (poll_changes_nothing c t calm n m) ∙ polls_are_waits c t calm ps
polls_are_waits c t calm (Ticks n ∷ ps) = polls_are_waits (wait_of c n).controller (range_kept (Wait n) c t) (waited_calm c n t calm) ps

-- ---- between the bytes
pub calm_between_bytes : CalmBetweenBytes
calm_between_bytes c t bytes h writes g =
    (leads_to Allowed Calm c 0 (take (4 + 2 * bytes) halves) writes c t refl refl (calm_leads bytes c.registers h (facts c.registers t).half) g).registers
