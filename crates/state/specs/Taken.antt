-- What `put` and `take` promise: only what is put is taken; any other run of bytes is 16.
use Rattle.std.specs.Option.{ok_or}
use Rattle.std.specs.Prelude.{⊤, ℕ, ◌+◌, ◌*◌, ◌-◌, ltb, eqb, length, take, drop, get_or, Bool, cond, ◌&&◌, List, [], ◌∷◌, Option, None, Some, Result, ◌≡◌}
use Rattle.std.specs.Str.{bytes_eq}
use Rattle.condition.specs.First.{Rule, ◌when◌, first_of}
use Rattle.controller.specs.Part.{in_range, with}
use Rattle.controller.specs.declared.Controller.{Controller}
use Rattle.controller.specs.declared.registers.Entry.{Entry}
use Rattle.controller.specs.declared.registers.Lights.{Lights}
use Rattle.controller.specs.declared.registers.Mode.{Mode}
use Rattle.controller.specs.declared.registers.Registers.{Registers}
use Rattle.counters.specs.Address.{line_mode, display, character}
use Rattle.counters.specs.Shift.{shift}
use Rattle.counters.specs.declared.LineMode.{LineMode}
use Rattle.counters.specs.declared.counter.Counter.{Counter}
use Rattle.counters.specs.declared.counter.Counter.TheVariants.{Display, Character}
use Rattle.event.specs.Kind.{kind_of}
use Rattle.halves.specs.Halves.{line_count}
use Rattle.halves.specs.declared.Half.{Half}
use Rattle.halves.specs.declared.Half.TheVariants.{Nothing, Waiting}
use Rattle.halves.specs.declared.LineCount.{LineCount}
use Rattle.lent.specs.Buffer.{unless_refused}
use Rattle.refusal.specs.Refusals.{number_of}
use Rattle.refusal.specs.declared.Refusal.{Refusal}
use Rattle.refusal.specs.declared.Refusal.TheVariants.{NotInRange}
use Rattle.state.specs.State.{state_bytes, registers_put, put_of}

-- ---- the field of a number, whatever it is

abbrev pub counter_read : (memory address : ℕ) → Counter
counter_read memory address = cond (eqb memory 0) (Display (display address)) (Character (character address))

abbrev pub flag_read : ℕ → Bool
flag_read n = eqb n 1

abbrev pub bus_read : ℕ → LineCount
bus_read n = line_count (flag_read n)

abbrev pub lines_read : ℕ → LineMode
lines_read n = line_mode (flag_read n)

abbrev pub half_read : (number upper : ℕ) → Half
half_read number upper = cond (eqb number 0) Nothing (Waiting (kind_of (number - 1)) upper)

-- ---- the controller that 159 bytes would be

abbrev pub mode_read : List ℕ → Mode
mode_read bytes = record { lines = lines_read (get_or bytes 148 0); tall = flag_read (get_or bytes 149 0) }

abbrev pub entry_read : List ℕ → Entry
entry_read bytes = record { up = flag_read (get_or bytes 150 0); shifts = flag_read (get_or bytes 151 0) }

abbrev pub lights_read : List ℕ → Lights
lights_read bytes = record { display = flag_read (get_or bytes 152 0); cursor = flag_read (get_or bytes 153 0); blink = flag_read (get_or bytes 154 0) }

unfoldable pub registers_read : List ℕ → Registers
registers_read bytes =
    record {
      counter = counter_read (get_or bytes 144 0) (get_or bytes 145 0);
      shift = shift (get_or bytes 146 0);
      mode = mode_read bytes;
      entry = entry_read bytes;
      lights = lights_read bytes;
      bus = bus_read (get_or bytes 147 0);
      half = half_read (get_or bytes 155 0) (get_or bytes 156 0);
      busy = get_or bytes 157 0 * 256 + get_or bytes 158 0;
    }

unfoldable pub read_off : List ℕ → Controller
read_off bytes = with (take 80 bytes) (take 64 (drop 80 bytes)) (registers_read bytes)

-- ---- only what is put is taken

-- the bytes behind the memories are those that the registers read off them are put as
unfoldable pub put_again : List ℕ → Bool
put_again bytes = bytes_eq (drop 144 bytes) (registers_put (registers_read bytes))

-- 159 bytes, which are put again as they are, of a controller in range
unfoldable pub is_state : List ℕ → Bool
is_state bytes = eqb (length bytes) state_bytes && (put_again bytes && in_range (registers_read bytes))

unfoldable pub taken_of : List ℕ → Option Controller
taken_of bytes = cond (is_state bytes) (Some (read_off bytes)) None

-- ---- what `put` promises, of any controller

-- 6: lent buffer too short
abbrev pub refusals : (buffer : ℕ) → List Rule
refusals buffer = (6 when ltb buffer state_bytes) ∷ []

unfoldable pub answer_for : (buffer : ℕ) → ℕ
answer_for buffer = first_of (refusals buffer) 0

pub record Putting (c : Controller) (out : List ℕ) (r : Result ⊤ Refusal) (left : List ℕ) : Type 0 where
  pub number : number_of r ≡ answer_for (length out)
  pub buffer : left ≡ unless_refused (answer_for (length out)) (put_of c) out

-- ---- what `take` promises

-- 16 where the bytes are put of no controller in range
abbrev pub Taking : (bytes : List ℕ) (r : Result Controller Refusal) → Type 0
Taking bytes r = r ≡ ok_or (taken_of bytes) NotInRange
