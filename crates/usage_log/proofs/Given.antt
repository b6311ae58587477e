-- An address set and a byte written, given to a part that is ready: where each leads, and whether it passes an end.
use Prim.Native.Nat.{ℕ, ◌+◌, ◌%◌, ◌≤◌, ◌<◌}
use lib.Dec.{T, eqb}
use lib.ListN.{set}
use mathlib.Core.Bool.{Bool, true, false, cond, not, ◌&&◌}
use mathlib.Core.List.{List}
use mathlib.Core.Path.{◌≡◌, ◌∙◌, ap, refl, sym, subst, subst⁻¹}
use native.Mathlib.Omega.{arith}
use Rattle.bedside.specs.Refusals.{is_two, no_half, is_ready}
use Rattle.calls.specs.Events.{byte_events, address_events}
use Rattle.condition.proofs.Tests.{is_true, and_left, and_right}
use Rattle.controller.proofs.Ranged.{InRange, test, unhalved}
use Rattle.controller.specs.Answers.{saying, wrapping}
use Rattle.controller.specs.Memory.{Change, store_at, display_after, character_after}
use Rattle.controller.specs.Part.{placed, awaiting, with, longest, in_range}
use Rattle.controller.specs.Result.{done, forgotten}
use Rattle.controller.specs.Told.{Told, carried}
use Rattle.controller.specs.declared.Controller.{Controller}
use Rattle.controller.specs.declared.registers.Registers.{Registers}
use Rattle.counters.proofs.Laws.{number_below}
use Rattle.counters.specs.Address.{display, has_display, cell_of, step_display, passes_display}
use Rattle.counters.specs.Counter.{has_counter, step_of, passes_of, number_on}
use Rattle.counters.specs.declared.LineMode.{LineMode}
use Rattle.counters.specs.declared.LineMode.TheVariants.{One, Two}
use Rattle.counters.specs.declared.address.DisplayAddress.{DisplayAddress}
use Rattle.counters.specs.declared.counter.Counter.{Counter}
use Rattle.counters.specs.declared.counter.Counter.TheVariants.{Display}
use Rattle.event.specs.Kind.{is_read}
use Rattle.event.specs.declared.Kind.{Kind}
use Rattle.event.specs.declared.Kind.TheVariants.{InstructionWrite, DataWrite}
use Rattle.halves.specs.declared.Half.{Half}
use Rattle.instructions.proofs.Decoded.{decoded_by_range}
use Rattle.instructions.specs.Instructions.{decode, row_of, obey}
use Rattle.instructions.specs.declared.instruction.Instruction.{Instruction}
use Rattle.instructions.specs.declared.instruction.Instruction.TheVariants.{SetDisplay}
use Rattle.step.specs.Acted.{acted}
use Rattle.step.specs.Data.{shift_after, write_data, act}
use Rattle.usage_log.proofs.Along.{not_refused, Leads}
use Rattle.usage_log.proofs.Byte.{byte_leads}
use Rattle.usage_log.proofs.Looked.{is_false}

-- ---- a part that is ready

pub record Ready (r : Registers) : Type 0 where
  pub two : r.mode.lines ≡ Two
  pub up : r.entry.up ≡ true
  pub still : r.entry.shifts ≡ false
  pub nothing_waits : r.half ≡ Half.Nothing

two_lines : (mode : LineMode) → T (is_two mode) → mode ≡ Two
two_lines One t = absurd t
two_lines Two t = refl

no_half_waits : (half : Half) → T (no_half half) → half ≡ Half.Nothing
no_half_waits Half.Nothing t = refl
no_half_waits (Half.Waiting kind upper) t = absurd t

pub ready_facts : (r : Registers) → T (is_ready r) → Ready r
unfolding is_ready
ready_facts r t =
    let two : Bool = is_two r.mode.lines in
    let still : Bool = not r.entry.shifts in
    let unshifted : Bool = eqb r.shift.0 0 in
    let free : Bool = no_half r.half in
    let second : T (r.entry.up && (still && (unshifted && free))) = and_right two _ t in
    let third : T (still && (unshifted && free)) = and_right r.entry.up _ second in
    let fourth : T (unshifted && free) = and_right still _ third in
    record {
      two = two_lines r.mode.lines (and_left two _ t);
      up = is_true r.entry.up (and_left r.entry.up _ second);
      still = is_false r.entry.shifts (and_left still _ third);
      nothing_waits = no_half_waits r.half (and_right unshifted free fourth);
    }

-- ---- what an address and a byte come to

address_acts : (r : Registers) (a : DisplayAddress) (v : ℕ) → T (has_display r.mode.lines a) → a.0 < 0x80
    → act InstructionWrite r (0x80 + a.0) v ≡ done false 0 10 (placed r (Display a) r.shift) Change.Nothing
unfolding act obey row_of
address_acts r a v t h =
    let low : (0x80 + a.0) % 0x80 ≡ a.0 = omega arith in
    let named : decode (0x80 + a.0) ≡ SetDisplay a = (decoded_by_range (0x80 + a.0)).display (omega arith) ∙ ap (λ (n : ℕ). SetDisplay (display n)) low in
    ap (λ (i : Instruction). obey i r) named ∙ ap (λ (b : Bool). cond (not b) (forgotten 3 r) (done false 0 10 (placed r (Display a) r.shift) Change.Nothing)) (is_true (has_display r.mode.lines a) t)

data_acts : (r : Registers) (a : DisplayAddress) (n v : ℕ) → r.mode.lines ≡ Two → r.entry.up ≡ true → r.entry.shifts ≡ false → r.counter ≡ Display a
    → act DataWrite r n v ≡ done (passes_display Two true a) 0 10 (placed r (Display (step_display Two true a)) r.shift) (Change.OneCell (cell_of Two a) n)
unfolding act write_data shift_after store_at step_of passes_of
data_acts r a n v two up still at = rw (at, two, up, still) refl

-- ---- the part, wherever its counter stands and whatever its display cells hold

abbrev pub standing : Controller → Counter → List ℕ → ℕ → Controller
standing c k d t = with d c.character (awaiting (placed c.registers k c.registers.shift) Half.Nothing t)

module _ (c : Controller) (ready : Ready c.registers) (ranged : InRange c.registers) where
  -- an address of two lines is one of the part
  pub exists : (a : DisplayAddress) → T (has_display Two a) → T (has_display c.registers.mode.lines a)
  exists a t = subst⁻¹ (λ (mode : LineMode). T (has_display mode a)) ready.two t

  standing_in_range : (k : Counter) (d : List ℕ) (t : ℕ) → T (has_counter c.registers.mode.lines k) → t ≤ longest → T (in_range (standing c k d t).registers)
  standing_in_range k d t u h =
      test (standing c k d t).registers (unhalved (placed c.registers k c.registers.shift) t (record { counter = u; shift = ranged.shift }) h)

  -- a byte that is done, whatever it does
  done_leads : (k : Kind) → is_read k ≡ false → (n : ℕ) → n < 256 → (at : Counter) (d : List ℕ) (t : ℕ) → T (has_counter c.registers.mode.lines at) → t ≤ longest → (after : Controller) (wrap : Bool)
      → acted (standing c at d 0) k n ≡ record { said = wrapping wrap (saying 0 0); controller = after } → Leads (byte_events c.registers.bus k n) (standing c at d t) after wrap
  done_leads k write n small at d t u h after wrap told =
      subst (λ (x : Told). Leads (byte_events c.registers.bus k n) (standing c at d t) x.controller x.said.wrap) told
      (byte_leads (standing c at d t) (standing_in_range at d t u h) refl k write n small (subst⁻¹ (λ (x : Told). T (not_refused x.said)) told tt))

  -- a display address is set
  pub address_leads : (a : DisplayAddress) (k : Counter) (d : List ℕ) (t : ℕ) → T (has_display Two a) → T (has_counter c.registers.mode.lines k) → t ≤ longest
      → Leads (address_events c.registers.bus a) (standing c k d t) (standing c (Display a) d 10) false
  unfolding display_after character_after has_counter number_on
  address_leads a k d t u v h =
      let below : a.0 < 0x80 = number_below Two (Display a) u in
      done_leads InstructionWrite refl (0x80 + a.0) (omega arith) k d t v h (standing c (Display a) d 10) false
      (ap (carried (standing c k d 0)) (address_acts (standing c k d 0).registers a _ (exists a u) below))

  -- a byte is written to the addressed cell, and the counter steps up
  pub data_leads : (a : DisplayAddress) (n : ℕ) (d : List ℕ) (t : ℕ) → T (has_display Two a) → n < 256 → t ≤ longest
      → Leads (byte_events c.registers.bus DataWrite n) (standing c (Display a) d t) (standing c (Display (step_display Two true a)) (set d (cell_of Two a).0 n) 10) (passes_display Two true a)
  unfolding display_after character_after has_counter
  data_leads a n d t u small h =
      done_leads DataWrite refl n small (Display a) d t (exists a u) h (standing c (Display (step_display Two true a)) (set d (cell_of Two a).0 n) 10) (passes_display Two true a)
      (ap (carried (standing c (Display a) d 0)) (data_acts (standing c (Display a) d 0).registers a n _ ready.two ready.up ready.still refl))

  -- where the call begins
  pub standing_first : standing c c.registers.counter c.display c.registers.busy ≡ c
  standing_first = ap (λ (h : Half). with c.display c.character (awaiting c.registers h c.registers.busy)) (sym ready.nothing_waits)
