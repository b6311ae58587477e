-- "Instructions": data and status, and the whole byte.
use Rattle.std.specs.Prelude.{ℕ, ◌+◌, eqb, false, cond, not}
use Rattle.controller.specs.Memory.{Change, store_at}
use Rattle.controller.specs.Part.{placed, counter_stepped, passes_end, shift_moved}
use Rattle.controller.specs.Result.{Result, done}
use Rattle.controller.specs.declared.registers.Registers.{Registers}
use Rattle.counters.specs.Counter.{number_on}
use Rattle.counters.specs.declared.counter.Counter.{Counter}
use Rattle.counters.specs.declared.counter.Counter.TheVariants.{Display, Character}
use Rattle.counters.specs.declared.shift.Shift.{Shift}
use Rattle.event.specs.declared.Kind.{Kind}
use Rattle.event.specs.declared.Kind.TheVariants.{InstructionWrite, DataWrite, StatusRead, DataRead}
use Rattle.instructions.specs.Instructions.{decode, obey}

-- if the cell was in display memory and shift on write is set, the display then moves left for direction up, right for down
unfoldable pub shift_after : Counter → Registers → Shift
shift_after (Display a) r = cond r.entry.shifts (shift_moved (not r.entry.up) r) r.shift
shift_after (Character a) r = r.shift

-- a data write stores the byte in the one addressed cell, then steps the counter in the set direction, which says whether it passes an end
unfoldable pub write_data : Registers → (byte : ℕ) → Result
write_data r n =
    done (passes_end r.entry.up r) 0 10 (placed r (counter_stepped r.entry.up r) (shift_after r.counter r)) (store_at r.mode.lines r.counter n)

-- a data read returns the addressed byte, steps the counter, which says the same, never moves the display
unfoldable pub read_data : Registers → (value : ℕ) → Result
read_data r v = done (passes_end r.entry.up r) v 10 (placed r (counter_stepped r.entry.up r) r.shift) Change.Nothing

-- a status read takes no ticks
unfoldable pub read_status : Registers → (value : ℕ) → Result
read_status r v = done false v r.busy r Change.Nothing

-- a status read returns 128 if busy, plus the address
unfoldable pub status_of : Registers → ℕ
status_of r = cond (eqb r.busy 0) 0 128 + number_on r.counter

-- what a transfer reads, where the counter addresses the byte b; a write reads nothing
unfoldable pub read_of : Kind → Registers → (b : ℕ) → ℕ
read_of InstructionWrite r b = 0
read_of DataWrite r b = 0
read_of StatusRead r b = status_of r
read_of DataRead r b = b

-- a whole transfer: the byte n is written, or the value v is read; a number handed in with a read is ignored
unfoldable pub act : Kind → Registers → (n v : ℕ) → Result
act InstructionWrite r n v = obey (decode n) r
act DataWrite r n v = write_data r n
act StatusRead r n v = read_status r v
act DataRead r n v = read_data r v
