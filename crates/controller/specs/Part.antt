-- "Memories and counters": the registers, in range, switched on, and the wait rule.
use Rattle.std.specs.Prelude.{ℕ, ◌-◌, leb, replicate, Bool, true, false, ◌&&◌, List}
use Rattle.counters.specs.Address.{display}
use Rattle.counters.specs.Counter.{has_counter, step_of, passes_of}
use Rattle.counters.specs.Shift.{shift, has_shift, move_of}
use Rattle.counters.specs.declared.LineMode.TheVariants.{One}
use Rattle.counters.specs.declared.counter.Counter.{Counter}
use Rattle.counters.specs.declared.counter.Counter.TheVariants.{Display}
use Rattle.counters.specs.declared.shift.Shift.{Shift}
use Rattle.halves.specs.Halves.{half_fits}
use Rattle.halves.specs.declared.Half.{Half}
use Rattle.halves.specs.declared.Half.TheVariants.{Nothing}
use Rattle.halves.specs.declared.LineCount.{LineCount}
use Rattle.halves.specs.declared.LineCount.TheVariants.{Eight}
use Rattle.controller.specs.declared.Controller.{Controller}
use Rattle.controller.specs.declared.registers.Entry.{Entry}
use Rattle.controller.specs.declared.registers.Lights.{Lights}
use Rattle.controller.specs.declared.registers.Mode.{Mode}
use Rattle.controller.specs.declared.registers.Registers.{Registers}

-- ---- the registers with some of them set anew
abbrev pub placed : Registers → Counter → Shift → Registers
placed r k s = record { counter = k; shift = s; mode = r.mode; entry = r.entry; lights = r.lights; bus = r.bus; half = r.half; busy = r.busy }

abbrev pub arranged : Registers → LineCount → Mode → Registers
arranged r b m = record { counter = r.counter; shift = r.shift; mode = m; entry = r.entry; lights = r.lights; bus = b; half = r.half; busy = r.busy }

abbrev pub entered : Registers → Entry → Registers
entered r e = record { counter = r.counter; shift = r.shift; mode = r.mode; entry = e; lights = r.lights; bus = r.bus; half = r.half; busy = r.busy }

abbrev pub lit : Registers → Lights → Registers
lit r l = record { counter = r.counter; shift = r.shift; mode = r.mode; entry = r.entry; lights = l; bus = r.bus; half = r.half; busy = r.busy }

abbrev pub awaiting : Registers → Half → ℕ → Registers
awaiting r h t = record { counter = r.counter; shift = r.shift; mode = r.mode; entry = r.entry; lights = r.lights; bus = r.bus; half = h; busy = t }

-- ---- the counter one step on, in whichever memory it belongs to, and whether that step passes an end
abbrev pub counter_stepped : (up : Bool) → Registers → Counter
counter_stepped up r = step_of r.mode.lines up r.counter

abbrev pub passes_end : (up : Bool) → Registers → Bool
passes_end up r = passes_of r.mode.lines up r.counter

-- ---- the shift once the display has moved
abbrev pub shift_moved : (right : Bool) → Registers → Shift
shift_moved right r = move_of r.mode.lines right r.shift

-- ---- a wait of n ticks lowers the busy time by n, not below 0
unfoldable pub waited : Registers → ℕ → Registers
waited r n = awaiting r r.half (r.busy - n)

-- ---- in range
-- busy time never exceeds 3,750
abbrev pub longest : ℕ
longest = 3750

-- the address is one its memory and line mode have, the shift is one the line mode has, a half waits only as "Halves" says, and the busy time is as above
unfoldable pub in_range : Registers → Bool
in_range r =
    has_counter r.mode.lines r.counter
    && (has_shift r.mode.lines r.shift
    && (half_fits r.bus r.half
    && leb r.busy longest))

-- ---- switched on
-- address 00 of display memory, shift 0, eight lines, N = 0, F = 0, direction up, no shift on write,
-- display, cursor and blink off, no half waiting, busy 3,750 ticks
unfoldable pub fresh_registers : Registers
fresh_registers = record {
  counter = Display (display 0x00);
  shift = shift 0;
  mode = record { lines = One; tall = false };
  entry = record { up = true; shifts = false };
  lights = record { display = false; cursor = false; blink = false };
  bus = Eight;
  half = Nothing;
  busy = longest;
}

-- a controller of these two memories and registers
abbrev pub with : (display character : List ℕ) → Registers → Controller
with d m r = record { display = d; character = m; registers = r }

-- a part just switched on that was given these two memories
unfoldable pub fresh_with : (display character : List ℕ) → Controller
fresh_with d m = with d m fresh_registers

-- all display cells 20 hex, character memory 0 (ours)
unfoldable pub switched_on : Controller
switched_on = fresh_with (replicate 80 0x20) (replicate 64 0)
