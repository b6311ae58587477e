-- What holds of every transfer and every wait, from any state and with any value. proofs/ proves each.
use Rattle.std.specs.Prelude.{ℕ, ◌-◌, ◌≤◌, T, eqb, get_or, replicate, Bool, true, false, ◌&&◌, cond, not, List, ◌⊎◌, ◌≢◌, ◌≡◌}
use Rattle.condition.specs.First.{first_of, Exactly}
use Rattle.controller.specs.Part.{with, awaiting, passes_end, longest, in_range}
use Rattle.controller.specs.Told.{Told}
use Rattle.controller.specs.declared.Controller.{Controller}
use Rattle.controller.specs.declared.registers.Registers.{Registers}
use Rattle.counters.specs.Address.{cell_of}
use Rattle.counters.specs.declared.LineMode.{LineMode}
use Rattle.counters.specs.declared.counter.Counter.{Counter}
use Rattle.counters.specs.declared.counter.Counter.TheVariants.{Display, Character}
use Rattle.event.specs.Kind.{is_read}
use Rattle.event.specs.declared.Event.{Event}
use Rattle.event.specs.declared.Event.TheVariants.{Transfer, Wait}
use Rattle.event.specs.declared.Kind.{Kind}
use Rattle.event.specs.declared.Kind.TheVariants.{InstructionWrite, DataWrite, StatusRead, DataRead}
use Rattle.halves.specs.declared.Half.{Half}
use Rattle.instructions.specs.Instructions.{bit, decode, row_of}
use Rattle.instructions.specs.Theorems.{is_cursor_move}
use Rattle.bus.specs.Events.{told_by, reached, waits, sum}
use Rattle.bus.specs.Refusals.{byte_of, transfer_rules, wait_rules}
use Rattle.bus.specs.Transfer.{told, transfer_of, wait_of}
use Rattle.bus.specs.declared.Outcome.{Outcome}

-- ---- range
-- every transfer and every wait keeps a controller in range,
abbrev pub RangeKept : Type 0
RangeKept = (e : Event) (c : Controller) → T (in_range c.registers) → T (in_range (told_by e c).controller.registers)

-- and so does every list of them from a part just switched on
abbrev pub ReachedInRange : Type 0
ReachedInRange = (past : List Event) → T (in_range (reached past).registers)

-- ---- demand 1: exactly when, and what a refusal leaves
abbrev pub TransferGivenExactly : Type 0
TransferGivenExactly = (c : Controller) (k : Kind) (n : ℕ) → Exactly (transfer_of c k n).said.number (transfer_rules c k n) 0

abbrev pub WaitGivenExactly : Type 0
WaitGivenExactly = (c : Controller) (n : ℕ) → Exactly (wait_of c n).said.number (wait_rules c) 0

-- the controller with another half, and nothing else changed
abbrev pub halved : Controller → Half → Controller
halved c h = with c.display c.character (awaiting c.registers h c.registers.busy)

-- 16 and 1 leave the whole state; 2 and 3 leave all but the half, which is forgotten; a refused call returns 0 for any value
pub record Leaves (c : Controller) (t : Told) : Type 0 where
  pub whole : (t.said.number ≡ 16) ⊎ (t.said.number ≡ 1) → t.controller ≡ c
  pub but_half : (t.said.number ≡ 2) ⊎ (t.said.number ≡ 3) → t.controller ≡ halved c Half.Nothing
  pub no_value : t.said.number ≢ 0 → t.said.number ≢ 20 → t.said.value ≡ 0

abbrev pub RefusalLeaves : Type 0
RefusalLeaves = (e : Event) (c : Controller) → Leaves c (told_by e c)

-- ---- at most one addressed cell
abbrev pub names_cell : LineMode → Counter → ℕ → Bool
names_cell lines (Display a) i = eqb i (cell_of lines a).0
names_cell lines (Character a) i = false

abbrev pub names_character : Counter → ℕ → Bool
names_character (Display a) j = false
names_character (Character a) j = eqb j a.0

-- a transfer with this answer is Clear: it completes the byte 01 and is not refused
unfoldable pub clears : Kind → Controller → (n number : ℕ) → Bool
clears InstructionWrite c n number = eqb number 0 && eqb (byte_of c.registers n) 0x01
clears DataWrite c n number = false
clears StatusRead c n number = false
clears DataRead c n number = false

pub record Cells (c : Controller) (k : Kind) (n : ℕ) (t : Told) : Type 0 where
  -- every cell but the addressed one stays, unless the transfer is Clear
  pub other_cells : T (not (clears k c n t.said.number)) → (i : ℕ) → T (not (names_cell c.registers.mode.lines c.registers.counter i))
      → get_or t.controller.display i 0 ≡ get_or c.display i 0
  pub other_characters : (j : ℕ) → T (not (names_character c.registers.counter j)) → get_or t.controller.character j 0 ≡ get_or c.character j 0
  -- Clear sets all 80 display cells to 20 hex and no character byte
  pub cleared : T (clears k c n t.said.number) → (t.controller.display ≡ replicate 80 0x20) × (t.controller.character ≡ c.character)
  -- reads, first halves and refusals change none
  pub none : T (is_read k) ⊎ (t.said.number ≢ 0) → (t.controller.display ≡ c.display) × (t.controller.character ≡ c.character)

abbrev pub OneCellAtMost : Type 0
OneCellAtMost = (c : Controller) (k : Kind) (n : ℕ) → Cells c k n (transfer_of c k n)

-- ---- reads
abbrev pub DataReadNeverMoves : Type 0
DataReadNeverMoves = (c : Controller) (n : ℕ) → (transfer_of c DataRead n).controller.registers.shift ≡ c.registers.shift

abbrev pub StatusReadChangesOnlyHalf : Type 0
StatusReadChangesOnlyHalf =
    (c : Controller) (n : ℕ) →
    (transfer_of c StatusRead n).controller ≡ halved c (transfer_of c StatusRead n).controller.registers.half

-- ---- busy time
-- the ticks that a completed transfer takes: the instruction table's, 10 for data, none for a status read
unfoldable pub busy_for : Kind → Controller → ℕ → ℕ
busy_for InstructionWrite c n = (row_of (decode (byte_of c.registers n)) c.registers).ticks
busy_for DataWrite c n = 10
busy_for StatusRead c n = c.registers.busy
busy_for DataRead c n = 10

-- after 0 the table's ticks; a first half and a refusal cost none
abbrev pub BusyByTable : Type 0
BusyByTable =
    (c : Controller) (k : Kind) (n : ℕ) →
    (transfer_of c k n).controller.registers.busy ≡ cond (eqb (transfer_of c k n).said.number 0) (busy_for k c n) c.registers.busy

-- a wait of n lowers it by n, not below 0
abbrev pub WaitLowers : Type 0
WaitLowers = (c : Controller) (n : ℕ) → T (in_range c.registers) → (wait_of c n).controller.registers.busy ≡ c.registers.busy - n

-- after waits of 3,750 ticks in all with no transfer between, the next transfer is not refused with 1
abbrev pub WaitedEnough : Type 0
WaitedEnough = (c : Controller) (ns : List ℕ) → longest ≤ sum ns → (k : Kind) (n : ℕ) → (transfer_of (waits ns c) k n).said.number ≢ 1

-- ---- past an end (request 8/12)
-- a transfer that completes this byte steps the counter: data, and a cursor move (10 to 17)
unfoldable pub steps_counter : Kind → (byte : ℕ) → Bool
steps_counter InstructionWrite n = is_cursor_move n
steps_counter DataWrite n = true
steps_counter StatusRead n = false
steps_counter DataRead n = true

-- up: data in the set direction, a cursor move if bit 2 = 1
unfoldable pub steps_up : Kind → Registers → (byte : ℕ) → Bool
steps_up InstructionWrite r n = bit 2 n
steps_up DataWrite r n = r.entry.up
steps_up StatusRead r n = r.entry.up
steps_up DataRead r n = r.entry.up

-- an event that is answered 0, steps the counter, and that step passes an end
unfoldable pub passes : Event → Controller → Bool
passes (Transfer k n) c =
    eqb (first_of (transfer_rules c k n) 0) 0
    && (steps_counter k (byte_of c.registers n)
    && passes_end (steps_up k c.registers (byte_of c.registers n)) c.registers)
passes (Wait n) c = false

-- an event says yes exactly then: no with a status read, a first half, a refusal, every other instruction and a wait
abbrev pub WrapExactly : Type 0
WrapExactly = (e : Event) (c : Controller) → (told_by e c).said.wrap ≡ passes e c

-- ---- any two outcomes that a promise allows are equal
abbrev pub TransferSettled : Type 0
TransferSettled = (o p : Outcome) (t : Told) → told o ≡ t → told p ≡ t → o ≡ p
