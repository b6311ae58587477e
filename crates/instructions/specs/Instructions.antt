-- "Instructions": the table, a row for each of the nine, in the paper's order.
use Rattle.std.specs.Prelude.{ℕ, ◌/◌, ◌%◌, ◌^◌, ltb, eqb, Bool, true, false, cond, not}
use Rattle.controller.specs.Memory.{Change}
use Rattle.controller.specs.Part.{placed, arranged, entered, lit, counter_stepped, passes_end, shift_moved}
use Rattle.controller.specs.Result.{Result, done, forgotten}
use Rattle.controller.specs.declared.registers.Registers.{Registers}
use Rattle.counters.specs.Address.{line_mode, display, character, has_display}
use Rattle.counters.specs.Shift.{shift}
use Rattle.counters.specs.declared.LineMode.{LineMode}
use Rattle.counters.specs.declared.LineMode.TheVariants.{One, Two}
use Rattle.counters.specs.declared.counter.Counter.TheVariants.{Display, Character}
use Rattle.halves.specs.Halves.{line_count}
use Rattle.instructions.specs.declared.instruction.Instruction.{Instruction}
use Rattle.instructions.specs.declared.instruction.Instruction.TheVariants.{Nothing, Clear, Home, EntryMode, OnOff, Move, FunctionSet, SetCharacter, SetDisplay}

-- ---- byte: the highest bit that is set decides
unfoldable pub bit : ℕ → ℕ → Bool
bit k b = eqb (b / 2 ^ k % 2) 1

-- which instruction a byte written with RS = 0 is
unfoldable pub decode : ℕ → Instruction
decode b =
    cond (ltb b 0x01) Nothing
    (cond (ltb b 0x02) Clear
    (cond (ltb b 0x04) Home
    (cond (ltb b 0x08) (EntryMode (record { up = bit 1 b; shifts = bit 0 b }))
    (cond (ltb b 0x10) (OnOff (record { display = bit 2 b; cursor = bit 1 b; blink = bit 0 b }))
    (cond (ltb b 0x20) (Move (bit 3 b) (bit 2 b))
    (cond (ltb b 0x40) (FunctionSet (line_count (bit 4 b)) (record { lines = line_mode (bit 3 b); tall = bit 2 b }))
    (cond (ltb b 0x80) (SetCharacter (character (b % 0x40)))
    (SetDisplay (display (b % 0x80))))))))))

-- ---- effects that take more than one register
-- address 00 of display memory, shift 0
abbrev pub homed : Registers → Registers
homed r = placed r (Display (display 0x00)) (shift 0)

-- bit 3 = 0: counter one step, up if bit 2 = 1; bit 3 = 1: display right if bit 2 = 1, otherwise left
unfoldable pub moved : (display right : Bool) → Registers → Registers
moved false right r = placed r (counter_stepped right r) r.shift
moved true right r = placed r r.counter (shift_moved right r)

-- only the counter's step can pass an end
unfoldable pub moves_past : (display right : Bool) → Registers → Bool
moves_past false right r = passes_end right r
moves_past true right r = false

-- what stays as it was unless N changes
unfoldable pub unless_changed : {A : Type 0} (before after : LineMode) → (old new : A) → A
unless_changed One One old new = old
unless_changed Two Two old new = old
unless_changed One Two old new = new
unless_changed Two One old new = new

-- if 20-3F changes N, the address becomes 00 of display memory and the shift 0; cells keep their bytes (ours)
unfoldable pub rearranged : (after : LineMode) → Registers → Registers
rearranged after r =
    placed r
    (unless_changed r.mode.lines after r.counter (Display (display 0x00)))
    (unless_changed r.mode.lines after r.shift (shift 0))

-- ---- the table
-- a row: the registers afterwards, the change of memory, the ticks, whether it names a display address that the line mode lacks,
-- and whether it steps the counter past an end
pub record Row : Type 0 where
  pub effect : Registers
  pub change : Change
  pub ticks : ℕ
  pub lacks : Bool
  pub wrap : Bool

-- no memory changes, no display address is named, and no end passed
abbrev row : Registers → (ticks : ℕ) → Row
row r t = record { effect = r; change = Change.Nothing; ticks = t; lacks = false; wrap = false }

unfoldable pub row_of : Instruction → Registers → Row
-- 00: none (ours)
row_of Nothing r = row r 10
-- 01: clear: all display cells 20 hex, address 00 of display memory, shift 0; it also sets the direction to up and keeps shift on write (request 3/12)
row_of Clear r =
    record { effect = entered (homed r) (record { up = true; shifts = r.entry.shifts }); change = Change.Clear; ticks = 410; lacks = false; wrap = false }
-- 02-03: home: address 00 of display memory, shift 0
row_of Home r = row (homed r) 410
-- 04-07: direction, and shift on write
row_of (EntryMode e) r = row (entered r e) 10
-- 08-0F: display, cursor, blink
row_of (OnOff l) r = row (lit r l) 10
-- 10-1F: counter one step, which says whether it passes an end, or display right or left
row_of (Move d right) r = record { effect = moved d right r; change = Change.Nothing; ticks = 10; lacks = false; wrap = moves_past d right r }
-- 20-3F: eight lines or four, N and F
row_of (FunctionSet b m) r = row (arranged (rearranged m.lines r) b m) 10
-- 40-7F: character address
row_of (SetCharacter a) r = row (placed r (Character a) r.shift) 10
-- 80-FF: display address
row_of (SetDisplay a) r =
    record { effect = placed r (Display a) r.shift; change = Change.Nothing; ticks = 10; lacks = not (has_display r.mode.lines a); wrap = false }

-- an instruction is done as its row says, or refused with 3: display address that the line mode lacks
unfoldable pub obey : Instruction → Registers → Result
unfolding row_of
obey i r = cond (row_of i r).lacks (forgotten 3 r) (done (row_of i r).wrap 0 (row_of i r).ticks (row_of i r).effect (row_of i r).change)
