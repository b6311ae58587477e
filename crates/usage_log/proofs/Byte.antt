-- A byte given to a part with no half waiting, on eight lines or four: it acts once, no transfer of it is refused, and one says whether it passes an end.
use Prim.Native.Nat.{ℕ, ◌+◌, ◌-◌, ◌*◌, ◌<◌}
use lib.Dec.{T, leb, le→leb}
use mathlib.Core.Bool.{false, ◌||◌, or-false}
use mathlib.Core.List.{List, ◌++◌}
use mathlib.Core.Path.{◌≡◌, ◌∙◌, ap, ap₂, refl, sym, subst⁻¹}
use native.Mathlib.Omega.{arith}
use Rattle.bedside.specs.Panel.{any_wrap}
use Rattle.bus.proofs.Busy.{idle_free, waited_told_lem}
use Rattle.bus.proofs.Free.{transfer_steps}
use Rattle.bus.specs.Events.{told_by, after_events, said_by}
use Rattle.bus.specs.Transfer.{transfer_of, wait_of}
use Rattle.calls.specs.Events.{transfer_events, byte_events}
use Rattle.condition.proofs.Tests.{holds, and_both}
use Rattle.controller.proofs.Ranged.{InRange, facts, test}
use Rattle.controller.specs.Answers.{saying}
use Rattle.controller.specs.Part.{awaiting, with, waited, longest, in_range}
use Rattle.controller.specs.Told.{Told}
use Rattle.controller.specs.declared.Controller.{Controller}
use Rattle.event.specs.Kind.{is_read}
use Rattle.event.specs.declared.Event.{Event}
use Rattle.event.specs.declared.Kind.{Kind}
use Rattle.halves.proofs.Waiting.{same_kind_agrees}
use Rattle.halves.specs.Halves.{upper, lower, most_half, held_by, is_four, is_first, disagrees, completed, half_fits}
use Rattle.halves.specs.declared.Half.{Half}
use Rattle.halves.specs.declared.LineCount.{LineCount}
use Rattle.halves.specs.declared.LineCount.TheVariants.{Eight, Four}
use Rattle.step.proofs.Joined.{first_steps, act_steps}
use Rattle.step.specs.Acted.{acted}
use Rattle.usage_log.specs.Words.{NoneRefused}
use Rattle.usage_log.proofs.Along.{not_refused, Along, Leads, leads_then}

-- a part with this half waiting, and so long busy
abbrev pub half_busy : Controller → Half → ℕ → Controller
half_busy c h t = with c.display c.character (awaiting c.registers h t)

-- ---- a wait of 3,750 ticks, and a transfer

module _ (c : Controller) (t : T (in_range c.registers)) (k : Kind) (n : ℕ) where
  idle_after : (wait_of c longest).controller ≡ half_busy c c.registers.half 0
  unfolding waited
  idle_after =
      let f : InRange c.registers = facts c.registers t in
      let z : c.registers.busy - longest ≡ 0 = omega arith in
      ap (λ (x : Told). x.controller) (waited_told_lem c longest t) ∙ ap (half_busy c c.registers.half) z

  wait_answered : T (not_refused (wait_of c longest).said)
  wait_answered = subst⁻¹ (λ (x : Told). T (not_refused x.said)) (waited_told_lem c longest t) tt

  -- what the transfer is told once the busy time is waited out
  transfer_leads : (told : Told) → transfer_of (half_busy c c.registers.half 0) k n ≡ told → T (not_refused told.said) → Leads (transfer_events k n) c told.controller told.said.wrap
  unfolding after_events said_by told_by NoneRefused any_wrap Along
  transfer_leads told e u =
      let same : transfer_of (wait_of c longest).controller k n ≡ told = ap (λ (x : Controller). transfer_of x k n) idle_after ∙ e in
      record {
        comes = record {
          leaves = ap (λ (x : Told). x.controller) same;
          none_refused = (wait_answered, (subst⁻¹ (λ (x : Told). T (not_refused x.said)) same u, tt));
          wraps = ap₂ (λ (waited done : Told). waited.said.wrap || (done.said.wrap || false)) (waited_told_lem c longest t) same ∙ or-false told.said.wrap;
        };
        along = λ P a b. (a, (subst⁻¹ (λ (x : Controller). P x.display) idle_after a, subst⁻¹ (λ (x : Told). P x.controller.display) same b));
      }

-- ---- a byte

idle_in_range : (c : Controller) (h : Half) → T (in_range c.registers) → T (half_fits c.registers.bus h) → T (in_range (half_busy c h 0).registers)
idle_in_range c h t u =
    let f : InRange c.registers = facts c.registers t in
    test (half_busy c h 0).registers (record { counter = f.counter; shift = f.shift; half = u; busy = omega arith })

-- a transfer that completes a byte acts as it would with no half waiting
completes : (c : Controller) (h : Half) (k : Kind) (n b : ℕ) → T (in_range (half_busy c h 0).registers) → is_first c.registers.bus h ≡ false
    → disagrees c.registers.bus h k ≡ false → b ≡ completed c.registers.bus h n → transfer_of (half_busy c h 0) k n ≡ acted (half_busy c Half.Nothing 0) k b
completes c h k n b t e f p =
    let free = idle_free (half_busy c h 0).registers k refl in
    transfer_steps (half_busy c h 0) k n t ∙ sym (act_steps (half_busy c h 0) k n free e f p refl)

-- the first half of a byte waits
first_half_waits : (c : Controller) (k : Kind) (n : ℕ) → is_read k ≡ false → T (in_range (half_busy c Half.Nothing 0).registers) → c.registers.bus ≡ Four
    → (v : ℕ) × (transfer_of (half_busy c Half.Nothing 0) k n ≡ record { said = saying 20 v; controller = half_busy c (Half.Waiting k (upper n)) 0 })
unfolding is_first is_four
first_half_waits c k n w t e =
    let free = idle_free (half_busy c Half.Nothing 0).registers k refl in
    let held : Half.Waiting k (upper n) ≡ Half.Waiting k (held_by k n) = rw w refl in
    (_, transfer_steps (half_busy c Half.Nothing 0) k n t ∙ sym (first_steps (half_busy c Half.Nothing 0) k n free (ap is_four e) held refl))

module _ (c : Controller) (t : T (in_range c.registers)) (nothing_waits : c.registers.half ≡ Half.Nothing) (k : Kind) (w : is_read k ≡ false) (n : ℕ) (small : n < 256)
    (u : T (not_refused (acted (half_busy c Half.Nothing 0) k n).said)) where
  -- what the byte comes to
  abbrev pub Done : List Event → Type 1
  Done events = Leads events c (acted (half_busy c Half.Nothing 0) k n).controller (acted (half_busy c Half.Nothing 0) k n).said.wrap

  idle : (m : ℕ) → transfer_of (half_busy c c.registers.half 0) k m ≡ transfer_of (half_busy c Half.Nothing 0) k m
  idle m = ap (λ (h : Half). transfer_of (half_busy c h 0) k m) nothing_waits

  none_in_range : T (in_range (half_busy c Half.Nothing 0).registers)
  unfolding half_fits
  none_in_range = idle_in_range c Half.Nothing t tt

  on_eight : c.registers.bus ≡ Eight → Done (transfer_events k n)
  unfolding is_first is_four disagrees completed
  on_eight e =
      transfer_leads c t k n (acted (half_busy c Half.Nothing 0) k n)
      (idle n ∙ completes c Half.Nothing k n n none_in_range (ap is_four e) refl (ap (λ (b : LineCount). completed b Half.Nothing n) (sym e))) u

  on_four_lem : c.registers.bus ≡ Four → Done (transfer_events k (upper n * 16) ++ transfer_events k (lower n * 16))
  unfolding is_first is_four disagrees completed half_fits
  on_four_lem e =
      let held : Half = Half.Waiting k (upper n) in
      let four : T (is_four c.registers.bus) = holds (is_four c.registers.bus) (ap is_four e) in
      let fits : T (leb (upper n) (most_half k)) = rw w (le→leb (upper n) 15 (omega arith)) in
      let small_half : T (half_fits c.registers.bus held) = and_both (is_four c.registers.bus) (leb (upper n) (most_half k)) four fits in
      let waits : T (in_range (half_busy c held 0).registers) = idle_in_range c held t small_half in
      let first = first_half_waits c k (upper n * 16) w none_in_range e in
      let again : upper (upper n * 16) ≡ upper n = omega arith in
      let taken = transfer_leads c t k (upper n * 16) _ (idle (upper n * 16) ∙ first.1 ∙ ap (λ (m : ℕ). record { said = saying 20 first.0; controller = half_busy c (Half.Waiting k m) 0 }) again) tt in
      let joined : n ≡ upper n * 16 + upper (lower n * 16) = omega arith in
      let whole : n ≡ completed c.registers.bus held (lower n * 16) = joined ∙ ap (λ (b : LineCount). completed b held (lower n * 16)) (sym e) in
      leads_then taken
      (transfer_leads (half_busy c held 0) waits k (lower n * 16) (acted (half_busy c Half.Nothing 0) k n)
      (completes c held k (lower n * 16) n waits refl (same_kind_agrees c.registers.bus k (upper n)) whole) u)
      refl

  by_lines : (b : LineCount) → c.registers.bus ≡ b → Done (byte_events b k n)
  unfolding byte_events
  by_lines Eight e = on_eight e
  by_lines Four e = on_four_lem e

  pub byte_leads : Done (byte_events c.registers.bus k n)
  byte_leads = by_lines c.registers.bus refl
