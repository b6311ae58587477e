-- The test `in_range`, taken apart and put together.
use Prim.Native.Nat.{ℕ, ◌≤◌}
use lib.Dec.{T, leb, leb→le, le→leb}
use mathlib.Core.Bool.{Bool, true, ◌&&◌}
use mathlib.Core.Path.{◌≡◌}
use Rattle.condition.proofs.Tests.{holds, is_true, and_left, and_right, and_both}
use Rattle.counters.specs.Counter.{has_counter}
use Rattle.counters.specs.Shift.{has_shift}
use Rattle.halves.proofs.Waiting.{upper_fits}
use Rattle.halves.specs.Halves.{half_fits, upper_of}
use Rattle.halves.specs.declared.Half.{Half}
use Rattle.controller.specs.Part.{awaiting, longest, in_range}
use Rattle.controller.specs.declared.registers.Registers.{Registers}

pub record InRange (r : Registers) : Type 0 where
  pub counter : T (has_counter r.mode.lines r.counter)
  pub shift : T (has_shift r.mode.lines r.shift)
  pub half : T (half_fits r.bus r.half)
  pub busy : r.busy ≤ longest

module _ (r : Registers) where
  abbrev counter_test : Bool
  counter_test = has_counter r.mode.lines r.counter

  abbrev shift_test : Bool
  shift_test = has_shift r.mode.lines r.shift

  abbrev half_test : Bool
  half_test = half_fits r.bus r.half

  abbrev busy_test : Bool
  busy_test = leb r.busy longest

  pub facts : T (in_range r) → InRange r
  unfolding in_range
  facts t =
      let s = and_right counter_test (shift_test && (half_test && busy_test)) t in
      let h = and_right shift_test (half_test && busy_test) s in
      record {
        counter = and_left counter_test (shift_test && (half_test && busy_test)) t;
        shift = and_left shift_test (half_test && busy_test) s;
        half = and_left half_test busy_test h;
        busy = leb→le r.busy longest (and_right half_test busy_test h);
      }

  pub test : InRange r → T (in_range r)
  unfolding in_range
  test f =
      and_both counter_test (shift_test && (half_test && busy_test)) f.counter
      (and_both shift_test (half_test && busy_test) f.shift
      (and_both half_test busy_test f.half (le→leb r.busy longest f.busy)))

pub counter_exists : (r : Registers) → in_range r ≡ true → has_counter r.mode.lines r.counter ≡ true
counter_exists r t = is_true _ (facts r (holds (in_range r) t)).counter

-- the half that waits is below 16
pub upper_small : (r : Registers) → in_range r ≡ true → upper_of r.half ≤ 15
upper_small r t = upper_fits r.bus r.half (facts r (holds (in_range r) t)).half

-- ---- with no half waiting, only the counter, the shift and the busy time matter
pub record Placed (r : Registers) : Type 0 where
  pub counter : T (has_counter r.mode.lines r.counter)
  pub shift : T (has_shift r.mode.lines r.shift)

pub placed_of : (r : Registers) → InRange r → Placed r
placed_of r f = record { counter = f.counter; shift = f.shift }

pub unhalved : (r : Registers) (t : ℕ) → Placed r → t ≤ longest → InRange (awaiting r Half.Nothing t)
unfolding half_fits
unhalved r t p h = record { counter = p.counter; shift = p.shift; half = tt; busy = h }

pub unhalved_in_range : (r : Registers) → in_range r ≡ true → in_range (awaiting r Half.Nothing r.busy) ≡ true
unhalved_in_range r t =
    let f : InRange r = facts r (holds (in_range r) t) in
    is_true _ (test (awaiting r Half.Nothing r.busy) (unhalved r r.busy (placed_of r f) f.busy))
