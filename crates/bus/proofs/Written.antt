-- A data write is in the addressed cell, and a data read of that address returns it, on eight and on four lines.
use Prim.Native.Nat.{ℕ, ◌*◌, ◌≤◌, ◌<◌}
use lib.Dec.{T, leb→le, lit≤}
use lib.ListN.{length, length-set, length-replicate}
use lib.Seq.{get_or-set_same}
use mathlib.Core.List.{List, [], ◌∷◌}
use mathlib.Core.Path.{◌≡◌, ◌∙◌, ap, refl, subst, subst⁻¹}
use native.Mathlib.Omega.{arith}
use Rattle.condition.proofs.Tests.{split}
use Rattle.controller.proofs.Ranged.{facts, test}
use Rattle.controller.specs.Answers.{saying}
use Rattle.controller.specs.Memory.{Change, byte_at, store_at, display_after, character_after}
use Rattle.controller.specs.Part.{awaiting, with, longest, in_range, fresh_with, switched_on}
use Rattle.controller.specs.Result.{Result}
use Rattle.controller.specs.Told.{Told, addressed, carried}
use Rattle.controller.specs.declared.Controller.{Controller}
use Rattle.counters.proofs.Laws.{cell_exists}
use Rattle.counters.specs.Address.{has_character, cell_of}
use Rattle.counters.specs.Counter.{has_counter}
use Rattle.counters.specs.declared.LineMode.{LineMode}
use Rattle.counters.specs.declared.counter.Counter.{Counter}
use Rattle.counters.specs.declared.counter.Counter.TheVariants.{Display, Character}
use Rattle.event.specs.declared.Event.{Event}
use Rattle.event.specs.declared.Event.TheVariants.{Transfer, Wait}
use Rattle.event.specs.declared.Kind.TheVariants.{DataWrite, DataRead}
use Rattle.halves.specs.Halves.{upper, lower, half_fits, answered}
use Rattle.halves.specs.declared.Half.{Half}
use Rattle.halves.specs.declared.LineCount.TheVariants.{Eight, Four}
use Rattle.step.specs.Data.{write_data, read_data, read_of, act}
use Rattle.step.specs.Step.{first_half, second_half, on_four}
use Rattle.bus.specs.Events.{told_by, after_events, waits}
use Rattle.bus.specs.Refusals.{byte_of}
use Rattle.bus.specs.Transfer.{transfer_of, wait_of}
use Rattle.bus.specs.Written.{Whole, ReachedWhole, byte_in, pointed, read_back, Wrote, WriteIsRead}
use Rattle.bus.proofs.Busy.{idle_free}
use Rattle.bus.proofs.Free.{with_busy, waits_only_busy, transfer_steps, eight_acts, four_acts}
use Rattle.bus.proofs.Outcomes.{of_step, of_transfer}
use Rattle.bus.proofs.Range.{range_kept}

-- ---- the memories keep their lengths
display_whole : (m : Change) (d : List ℕ) → length d ≡ 80 → length (display_after m d) ≡ 80
unfolding display_after
display_whole Change.Nothing d e = e
display_whole Change.Clear d e = length-replicate {A = ℕ} 80 0x20
display_whole (Change.OneCell c n) d e = length-set d c.0 n ∙ e
display_whole (Change.OneCharacter a n) d e = e

character_whole : (m : Change) (d : List ℕ) → length d ≡ 64 → length (character_after m d) ≡ 64
unfolding character_after
character_whole Change.Nothing d e = e
character_whole Change.Clear d e = e
character_whole (Change.OneCell c n) d e = e
character_whole (Change.OneCharacter a n) d e = length-set d a.0 n ∙ e

WholeAfter : Told → Type 0
WholeAfter t = Whole t.controller

event_whole : (e : Event) (c : Controller) → Whole c → Whole (told_by e c).controller
unfolding told_by WholeAfter transfer_of wait_of
event_whole (Transfer k n) c w =
    split WholeAfter (in_range c.registers)
    (λ t. record { display = display_whole _ c.display w.display; character = character_whole _ c.character w.character })
    (λ t. w)
event_whole (Wait n) c w = split WholeAfter (in_range c.registers) (λ t. record { display = w.display; character = w.character }) (λ t. w)

events_whole : (es : List Event) (c : Controller) → Whole c → Whole (after_events es c)
unfolding after_events
events_whole [] c w = w
events_whole (e ∷ es) c w = events_whole es (told_by e c).controller (event_whole e c w)

pub reached_whole : ReachedWhole
unfolding switched_on fresh_with
reached_whole past = events_whole past switched_on (record { display = length-replicate {A = ℕ} 80 0x20; character = length-replicate {A = ℕ} 64 0 })

-- ---- the byte stored
stored_at : (lines : LineMode) (k : Counter) (n : ℕ) (d m : List ℕ) → T (has_counter lines k) → length d ≡ 80 → length m ≡ 64
    → byte_at lines k (display_after (store_at lines k n) d) (character_after (store_at lines k n) m) ≡ n
unfolding byte_at store_at display_after character_after has_counter has_character
stored_at lines (Display a) n d m t e f = get_or-set_same d (cell_of lines a).0 n 0 (subst⁻¹ (λ (x : ℕ). (cell_of lines a).0 < x) e (cell_exists lines a t))
stored_at lines (Character a) n d m t e f = get_or-set_same m a.0 n 0 (subst⁻¹ (λ (x : ℕ). a.0 < x) f (below (leb→le a.0 0x3F t)))
  where
    below : a.0 ≤ 0x3F → a.0 < 64
    below h = omega arith

-- ---- a data write that is done
module _ (c : Controller) (n : ℕ) where
  IsWrite : Told → Type 0
  IsWrite t = t.said.number ≡ 0 → T (in_range c.registers) × (t ≡ carried c (write_data c.registers (byte_of c.registers n)))

  is_write : IsWrite (transfer_of c DataWrite n)
  unfolding IsWrite act first_half
  is_write =
      of_transfer IsWrite c DataWrite n
      (λ t. of_step (λ s. IsWrite (carried c s)) c.registers DataWrite n (addressed c)
      (λ e. absurd (omega (arith, e)))
      (λ v e. (t, refl))
      (λ v u e. absurd (omega (arith, e)))
      (λ e. absurd (omega (arith, e))))
      (λ e. absurd (omega (arith, e)))

-- ---- a data read of a part that is free, and where no half waits
module _ (c : Controller) (t : T (in_range c.registers)) (free : c.registers.busy ≡ 0) (no_half_lem : c.registers.half ≡ Half.Nothing) where
  reads_on_eight : (n : ℕ) → c.registers.bus ≡ Eight → (transfer_of c DataRead n).said ≡ read_back c (addressed c)
  unfolding act read_data read_of
  reads_on_eight n e =
      ap (λ (x : Told). x.said) (transfer_steps c DataRead n t)
      ∙ ap (λ (s : Result). s.said) (eight_acts c.registers DataRead n (addressed c) (idle_free c.registers DataRead free) e)

  -- the first half waits
  halfway : Controller
  halfway = with c.display c.character (awaiting c.registers (Half.Waiting DataRead 0) c.registers.busy)

  first_read : (n : ℕ) → c.registers.bus ≡ Four
      → transfer_of c DataRead n ≡ record { said = saying 20 (upper (addressed c) * 16); controller = halfway }
  unfolding halfway on_four first_half read_of display_after character_after
  first_read n e =
      transfer_steps c DataRead n t
      ∙ ap (carried c) (four_acts c.registers DataRead n (addressed c) (idle_free c.registers DataRead free) Half.Nothing e no_half_lem)

  second_read : (n : ℕ) → c.registers.bus ≡ Four → (transfer_of halfway DataRead n).said ≡ read_back c (lower (addressed c) * 16)
  unfolding halfway on_four second_half act read_data read_of answered told_by
  second_read n e =
      let u : T (in_range halfway.registers) = subst (λ (x : Told). T (in_range x.controller.registers)) (first_read 0 e) (range_kept (Transfer DataRead 0) c t) in
      ap (λ (x : Told). x.said) (transfer_steps halfway DataRead n u)
      ∙ ap (λ (s : Result). s.said)
      (four_acts halfway.registers DataRead n (addressed halfway) (idle_free halfway.registers DataRead free) (Half.Waiting DataRead 0) e refl)

-- ---- the part that such a write leaves
module _ (c : Controller) (n : ℕ) (w : Whole c) (t : T (in_range c.registers)) where
  abbrev k : Counter
  k = c.registers.counter

  abbrev left : Controller
  left = (carried c (write_data c.registers (byte_of c.registers n))).controller

  is_stored : byte_in left k ≡ byte_of c.registers n
  unfolding write_data
  is_stored = stored_at c.registers.mode.lines k (byte_of c.registers n) c.display c.character (facts c.registers t).counter w.display w.character

  -- at that address again, once it is free
  again : Controller
  again = with_busy (pointed k left) 0

  module _ (u : T (in_range left.registers)) where
    pointed_in_range : (busy : ℕ) → busy ≤ longest → T (in_range (with_busy (pointed k left) busy).registers)
    unfolding write_data half_fits
    pointed_in_range busy h =
        test (with_busy (pointed k left) busy).registers
        (record { counter = (facts c.registers t).counter; shift = (facts left.registers u).shift; half = tt; busy = h })

    waited_for : (ns : List ℕ) → (waits ns (pointed k left)).registers.busy ≡ 0 → waits ns (pointed k left) ≡ again
    unfolding again write_data
    waited_for ns z = waits_only_busy ns (pointed k left) (pointed_in_range 10 (lit≤ tt)) ∙ ap (with_busy (pointed k left)) z

    again_in_range : T (in_range again.registers)
    unfolding again
    again_in_range = pointed_in_range 0 (lit≤ tt)

    is_read : Wrote c n left
    unfolding again write_data
    is_read = record {
      stored = is_stored;
      read_on_eight = λ ns m z e.
          ap (λ (x : Controller). (transfer_of x DataRead m).said) (waited_for ns z)
          ∙ reads_on_eight again again_in_range refl refl m e
          ∙ ap (read_back c) is_stored;
      read_on_four = λ ns m m' z e. (
        ap (λ (x : Controller). (transfer_of x DataRead m).said) (waited_for ns z)
            ∙ ap (λ (x : Told). x.said) (first_read again again_in_range refl refl m e)
            ∙ ap (λ (v : ℕ). saying 20 (upper v * 16)) is_stored,
        ap (λ (x : Controller). (transfer_of (transfer_of x DataRead m).controller DataRead m').said) (waited_for ns z)
            ∙ ap (λ (x : Told). (transfer_of x.controller DataRead m').said) (first_read again again_in_range refl refl m e)
            ∙ second_read again again_in_range refl refl m' e
            ∙ ap (λ (v : ℕ). read_back c (lower v * 16)) is_stored,
      );
    }

pub write_is_read : WriteIsRead
unfolding IsWrite told_by
write_is_read c n w e =
    let found = is_write c n e in
    let u = subst (λ (x : Told). T (in_range x.controller.registers)) found.1 (range_kept (Transfer DataWrite n) c found.0) in
    subst⁻¹ (λ (x : Told). Wrote c n x.controller) found.1 (is_read c n w found.0 u)
