-- Each field is had back from its number, and a controller from its bytes.
use Prim.Native.Nat.{ℕ, ◌+◌, ◌*◌, ◌/◌}
use lib.ListN.{length, take, drop, get_or, length-append}
use lib.Seq.{take_at, drop_at, get_or-append-add}
use mathlib.Core.Bool.{Bool, true, false}
use mathlib.Core.List.{List, ◌++◌, append_assoc}
use mathlib.Core.Path.{◌≡◌, refl, ap, ◌∙◌}
use native.Mathlib.Nat.{div-add-mod'}
use native.Mathlib.Omega.{arith}
use Rattle.condition.specs.Flag.{flag_number}
use Rattle.controller.specs.declared.Controller.{Controller}
use Rattle.controller.specs.declared.registers.Registers.{Registers}
use Rattle.counters.specs.Counter.{number_on}
use Rattle.counters.specs.Shift.{shift}
use Rattle.counters.specs.declared.LineMode.{LineMode}
use Rattle.counters.specs.declared.LineMode.TheVariants.{One, Two}
use Rattle.counters.specs.declared.counter.Counter.{Counter}
use Rattle.counters.specs.declared.counter.Counter.TheVariants.{Display, Character}
use Rattle.event.specs.declared.Kind.TheVariants.{InstructionWrite, DataWrite, StatusRead, DataRead}
use Rattle.halves.specs.Halves.{upper_of}
use Rattle.halves.specs.declared.Half.{Half}
use Rattle.halves.specs.declared.Half.TheVariants.{Nothing, Waiting}
use Rattle.halves.specs.declared.LineCount.{LineCount}
use Rattle.halves.specs.declared.LineCount.TheVariants.{Eight, Four}
use Rattle.state.specs.State.{memory_number, eight_number, lines_number, half_number, registers_put, put_of}
use Rattle.state.specs.Taken.{counter_read, flag_read, bus_read, lines_read, half_read, registers_read, read_off}

-- ---- a field

counter_back : (c : Counter) → counter_read (memory_number c) (number_on c) ≡ c
unfolding number_on
counter_back (Display a) = refl
counter_back (Character a) = refl

flag_back : (b : Bool) → flag_read (flag_number b) ≡ b
flag_back true = refl
flag_back false = refl

bus_back : (b : LineCount) → bus_read (eight_number b) ≡ b
bus_back Eight = refl
bus_back Four = refl

lines_back : (l : LineMode) → lines_read (lines_number l) ≡ l
lines_back One = refl
lines_back Two = refl

half_back : (h : Half) → half_read (half_number h) (upper_of h) ≡ h
half_back Nothing = refl
half_back (Waiting InstructionWrite u) = refl
half_back (Waiting DataWrite u) = refl
half_back (Waiting StatusRead u) = refl
half_back (Waiting DataRead u) = refl

-- ---- the registers, from bytes that have theirs at 144

pub registers_back : (r : Registers) (bytes : List ℕ) → ((k : ℕ) → get_or bytes (144 + k) 0 ≡ get_or (registers_put r) k 0) → registers_read bytes ≡ r
unfolding registers_read registers_put
registers_back r bytes at =
    λ i. record {
      counter = (ap (λ (n : ℕ). counter_read n (get_or bytes 145 0)) (at 0) ∙ ap (counter_read (memory_number r.counter)) (at 1) ∙ counter_back r.counter) i;
      shift = shift (at 2 i);
      mode = record { lines = (ap lines_read (at 4) ∙ lines_back r.mode.lines) i; tall = (ap flag_read (at 5) ∙ flag_back r.mode.tall) i };
      entry = record { up = (ap flag_read (at 6) ∙ flag_back r.entry.up) i; shifts = (ap flag_read (at 7) ∙ flag_back r.entry.shifts) i };
      lights = record {
        display = (ap flag_read (at 8) ∙ flag_back r.lights.display) i;
        cursor = (ap flag_read (at 9) ∙ flag_back r.lights.cursor) i;
        blink = (ap flag_read (at 10) ∙ flag_back r.lights.blink) i;
      };
      bus = (ap bus_read (at 3) ∙ bus_back r.bus) i;
      half = (ap (λ (n : ℕ). half_read n (get_or bytes 156 0)) (at 11) ∙ ap (half_read (half_number r.half)) (at 12) ∙ half_back r.half) i;
      busy = (ap (λ (n : ℕ). n * 256 + get_or bytes 158 0) (at 13) ∙ ap (λ (n : ℕ). r.busy / 256 * 256 + n) (at 14) ∙ div-add-mod' r.busy 256) i;
    }

-- ---- the three parts of the bytes

module _ (d m t : List ℕ) (hd : length d ≡ 80) (hm : length m ≡ 64) where
  memories : length (d ++ m) ≡ 144
  memories = simp length-append (omega arith)

  character_part : take 64 (drop 80 (d ++ (m ++ t))) ≡ m
  character_part = ap (take 64) (drop_at d (m ++ t) 80 hd) ∙ take_at m t 64 hm

  registers_part : drop 144 (d ++ (m ++ t)) ≡ t
  registers_part = rw (← append_assoc d m t) (drop_at (d ++ m) t 144 memories)

  register : (k : ℕ) → get_or (d ++ (m ++ t)) (144 + k) 0 ≡ get_or t k 0
  register k = rw (← append_assoc d m t, ← memories) (get_or-append-add (d ++ m) t k 0)

-- ---- a controller

module _ (c : Controller) (hd : length c.display ≡ 80) (hm : length c.character ≡ 64) where
  pub put_behind : drop 144 (put_of c) ≡ registers_put c.registers
  unfolding put_of
  put_behind = registers_part c.display c.character (registers_put c.registers) hd hm

  pub registers_again : registers_read (put_of c) ≡ c.registers
  unfolding put_of
  registers_again = registers_back c.registers (put_of c) (register c.display c.character (registers_put c.registers) hd hm)

  pub back : read_off (put_of c) ≡ c
  unfolding put_of read_off
  back =
      λ i. record {
        display = take_at c.display (c.character ++ registers_put c.registers) 80 hd i;
        character = character_part c.display c.character (registers_put c.registers) hd hm i;
        registers = registers_again i;
      }
