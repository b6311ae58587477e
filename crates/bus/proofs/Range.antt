-- Every transfer and every wait keeps a controller in range, and a part just switched on is in range.
use Prim.Native.Nat.{ℕ, ◌%◌}
use lib.Dec.{T, le→leb, lit≤}
use lib.ListN.{replicate}
use mathlib.Core.Bool.{Bool, true, false, not}
use mathlib.Core.List.{List, [], ◌∷◌}
use mathlib.Core.Path.{◌≡◌}
use native.Mathlib.Omega.{arith}
use Rattle.condition.proofs.Tests.{is_true, holds, not_not, split}
use Rattle.controller.proofs.Ranged.{InRange, facts, test, Placed, placed_of, unhalved}
use Rattle.controller.specs.Part.{placed, counter_stepped, waited, in_range, fresh_registers, fresh_with, switched_on}
use Rattle.controller.specs.Result.{Result}
use Rattle.controller.specs.Told.{Told, addressed}
use Rattle.controller.specs.declared.Controller.{Controller}
use Rattle.controller.specs.declared.registers.Registers.{Registers}
use Rattle.counters.proofs.Laws.{home_exists, no_shift_exists, step_exists, move_exists}
use Rattle.counters.specs.Address.{has_display, has_character}
use Rattle.counters.specs.Counter.{has_counter}
use Rattle.counters.specs.Shift.{has_shift}
use Rattle.counters.specs.declared.LineMode.{LineMode}
use Rattle.counters.specs.declared.LineMode.TheVariants.{One, Two}
use Rattle.counters.specs.declared.counter.Counter.{Counter}
use Rattle.counters.specs.declared.counter.Counter.TheVariants.{Display, Character}
use Rattle.event.specs.declared.Event.{Event}
use Rattle.event.specs.declared.Event.TheVariants.{Transfer, Wait}
use Rattle.event.specs.declared.Kind.{Kind}
use Rattle.halves.proofs.Waiting.{first_fits}
use Rattle.halves.specs.Halves.{half_fits}
use Rattle.instructions.proofs.Decoded.{of_decoded}
use Rattle.instructions.proofs.Rows.{ticks_fit}
use Rattle.instructions.specs.Instructions.{decode, moved, unless_changed, rearranged, row_of}
use Rattle.instructions.specs.declared.instruction.Instruction.{Instruction}
use Rattle.instructions.specs.declared.instruction.Instruction.TheVariants.{Home}
use Rattle.step.specs.Data.{shift_after, write_data, read_data, read_status}
use Rattle.step.specs.Step.{first_half, result_for}
use Rattle.bus.specs.Events.{told_by, after_events}
use Rattle.bus.specs.Refusals.{byte_of}
use Rattle.bus.specs.Theorems.{RangeKept, ReachedInRange}
use Rattle.bus.proofs.Outcomes.{Ways, of_act, of_step, of_transfer, of_wait}

-- ---- instructions
-- a function set leaves the counter and the shift where the new line mode has them
unless_changed_lem : {A : Type 0} (Has : LineMode → A → Type 0) (before after : LineMode) {old new : A} → Has before old → Has after new
    → Has after (unless_changed before after old new)
unfolding unless_changed
unless_changed_lem Has One One h k = h
unless_changed_lem Has Two Two h k = h
unless_changed_lem Has One Two h k = k
unless_changed_lem Has Two One h k = k

home_placed : (r : Registers) → Placed (row_of Home r).effect
unfolding row_of
home_placed r = record { counter = home_exists r.mode.lines; shift = no_shift_exists r.mode.lines }

moved_placed : (display right : Bool) (r : Registers) → Placed r → Placed (moved display right r)
unfolding moved
moved_placed true right r p = record { counter = p.counter; shift = move_exists right r.mode.lines r.shift p.shift }
moved_placed false right r p = record { counter = step_exists right r.mode.lines r.counter p.counter; shift = p.shift }

EffectPlaced : Registers → Instruction → Type 0
EffectPlaced r i = T (not (row_of i r).lacks) → Placed (row_of i r).effect

effect_placed : (n : ℕ) (r : Registers) → Placed r → EffectPlaced r (decode n)
unfolding EffectPlaced row_of rearranged has_counter has_character
effect_placed n r p =
    of_decoded (EffectPlaced r) n (record {
      nothing = λ h t. p;
      clear = λ e t. record { counter = (home_placed r).counter; shift = (home_placed r).shift };
      home = λ h t. home_placed r;
      entry = λ h e t. record { counter = p.counter; shift = p.shift };
      lights = λ h l t. record { counter = p.counter; shift = p.shift };
      move = λ l h t. moved_placed _ _ r p;
      set = λ l b m t. record {
        counter = unless_changed_lem (λ lines k. T (has_counter lines k)) r.mode.lines m.lines p.counter (home_exists m.lines);
        shift = unless_changed_lem (λ lines s. T (has_shift lines s)) r.mode.lines m.lines p.shift (no_shift_exists m.lines);
      };
      character = λ l t. record { counter = le→leb (n % 0x40) 0x3F (omega arith); shift = p.shift };
      display = λ l a t. record { counter = not_not (has_display r.mode.lines a) t; shift = p.shift };
    })

-- ---- a whole byte leaves no half and a busy time of the table
Kept : Result → Type 0
Kept s = InRange s.registers

written_placed : (k : Counter) (r : Registers) → T (has_shift r.mode.lines r.shift) → T (has_shift r.mode.lines (shift_after k r))
unfolding shift_after
written_placed (Display a) r t =
    split (λ s. T (has_shift r.mode.lines s)) r.entry.shifts (λ u. move_exists (not r.entry.up) r.mode.lines r.shift t) (λ u. t)
written_placed (Character a) r t = t

ways_kept : (r : Registers) → InRange r → Ways Kept r
unfolding Kept write_data read_status read_data EffectPlaced
ways_kept r f =
    let p : Placed r = placed_of r f in
    let counter : Counter = counter_stepped r.entry.up r in
    let steps = step_exists r.entry.up r.mode.lines r.counter f.counter in
    record {
      obeyed = λ n t. unhalved (row_of (decode n) r).effect (row_of (decode n) r).ticks (effect_placed n r p t) (ticks_fit (decode n) r);
      lacking = unhalved r r.busy p f.busy;
      written = λ n. unhalved (placed r counter (shift_after r.counter r)) 10 (record { counter = steps; shift = written_placed r.counter r f.shift }) (lit≤ tt);
      status = λ v. unhalved r r.busy p f.busy;
      read = λ v. unhalved (placed r counter r.shift) 10 (record { counter = steps; shift = f.shift }) (lit≤ tt);
    }

step_kept : (r : Registers) (k : Kind) (n b : ℕ) → InRange r → Kept (result_for r k n b)
unfolding Kept first_half
step_kept r k n b f =
    of_step Kept r k n b f (of_act Kept r (ways_kept r f) k (byte_of r n))
    (λ v t. record { counter = f.counter; shift = f.shift; half = first_fits r.bus r.half k n t; busy = f.busy })
    (unhalved r r.busy (placed_of r f) f.busy)

-- ---- the theorems
InRangeAfter : Told → Type 0
InRangeAfter t = T (in_range t.controller.registers)

-- registers in range are in range after a step
pub step_in_range : (r : Registers) (k : Kind) (n b : ℕ) → in_range r ≡ true → in_range (result_for r k n b).registers ≡ true
unfolding Kept
step_in_range r k n b t = is_true _ (test (result_for r k n b).registers (step_kept r k n b (facts r (holds (in_range r) t))))

waited_kept : (r : Registers) (n : ℕ) → T (in_range r) → T (in_range (waited r n))
unfolding waited
waited_kept r n t =
    let f : InRange r = facts r t in
    test (waited r n) (record { counter = f.counter; shift = f.shift; half = f.half; busy = omega arith })

pub range_kept : RangeKept
unfolding told_by InRangeAfter
range_kept (Transfer k n) c t =
    of_transfer InRangeAfter c k n (λ u. holds _ (step_in_range c.registers k n (addressed c) (is_true _ u))) t
range_kept (Wait n) c t = of_wait InRangeAfter c n (waited_kept c.registers n) t

pub fresh_in_range : (d m : List ℕ) → T (in_range (fresh_with d m).registers)
unfolding fresh_with fresh_registers half_fits
fresh_in_range d m = test fresh_registers (record { counter = home_exists One; shift = no_shift_exists One; half = tt; busy = lit≤ tt })

pub events_kept : (es : List Event) (c : Controller) → T (in_range c.registers) → T (in_range (after_events es c).registers)
unfolding after_events
events_kept [] c t = t
events_kept (e ∷ es) c t = events_kept es (told_by e c).controller (range_kept e c t)

pub reached_in_range : ReachedInRange
unfolding switched_on
reached_in_range past = events_kept past switched_on (fresh_in_range (replicate 80 0x20) (replicate 64 0))
