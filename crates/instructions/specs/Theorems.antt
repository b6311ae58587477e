-- What is proved of the instructions beside the promises.
use Rattle.std.specs.Prelude.{ℕ, ◌<◌, ◌≤◌, ◌%◌, T, leb, eqb, Bool, ◌&&◌, ◌||◌, not, ◌≡◌}
use Rattle.controller.specs.Memory.{Change}
use Rattle.controller.specs.Part.{passes_end, longest}
use Rattle.controller.specs.Result.{result_of}
use Rattle.controller.specs.declared.effect.Effect.{Effect}
use Rattle.controller.specs.declared.registers.Registers.{Registers}
use Rattle.counters.specs.Address.{line_mode, character, display}
use Rattle.halves.specs.Halves.{line_count}
use Rattle.halves.specs.declared.Half.{Half}
use Rattle.instructions.specs.Instructions.{bit, decode, row_of, obey}
use Rattle.instructions.specs.declared.instruction.Instruction.{Instruction}
use Rattle.instructions.specs.declared.instruction.Instruction.TheVariants.{Nothing, Clear, Home, EntryMode, OnOff, Move, FunctionSet, SetCharacter, SetDisplay}

-- ---- the byte's ranges
pub record ByRange (b : ℕ) : Type 0 where
  pub nothing : b < 0x01 → decode b ≡ Nothing
  pub clear : 0x01 ≤ b → b < 0x02 → decode b ≡ Clear
  pub home : 0x02 ≤ b → b < 0x04 → decode b ≡ Home
  pub entry : 0x04 ≤ b → b < 0x08 → decode b ≡ EntryMode (record { up = bit 1 b; shifts = bit 0 b })
  pub lights : 0x08 ≤ b → b < 0x10 → decode b ≡ OnOff (record { display = bit 2 b; cursor = bit 1 b; blink = bit 0 b })
  pub move : 0x10 ≤ b → b < 0x20 → decode b ≡ Move (bit 3 b) (bit 2 b)
  pub set : 0x20 ≤ b → b < 0x40 → decode b ≡ FunctionSet (line_count (bit 4 b)) (record { lines = line_mode (bit 3 b); tall = bit 2 b })
  pub character : 0x40 ≤ b → b < 0x80 → decode b ≡ SetCharacter (character (b % 0x40))
  pub display : 0x80 ≤ b → decode b ≡ SetDisplay (display (b % 0x80))

abbrev pub DecodedByRange : Type 0
DecodedByRange = (b : ℕ) → ByRange b

-- ---- what all nine have in common
-- no half is left waiting
abbrev pub LeavesNoHalf : Type 0
LeavesNoHalf = (i : Instruction) (r : Registers) → (obey i r).registers.half ≡ Half.Nothing

-- each is answered 0 or 3
abbrev pub AnswersDoneOrThree : Type 0
AnswersDoneOrThree = (i : Instruction) (r : Registers) → T (eqb (obey i r).said.number 0 || eqb (obey i r).said.number 3)

-- only Clear, the byte 01, changes a memory
abbrev pub OnlyClearChanges : Type 0
OnlyClearChanges = (b : ℕ) (r : Registers) → T (not (eqb b 0x01)) → (obey (decode b) r).change ≡ Change.Nothing

-- only a cursor move, the bytes 10 to 17, can pass an end, up if bit 2 = 1
abbrev pub is_cursor_move : ℕ → Bool
is_cursor_move b = leb 0x10 b && leb b 0x17

abbrev pub OnlyCursorMovesPass : Type 0
OnlyCursorMovesPass = (b : ℕ) (r : Registers) → (row_of (decode b) r).wrap ≡ (is_cursor_move b && passes_end (bit 2 b) r)

-- none takes more ticks than switching on
abbrev pub TicksFit : Type 0
TicksFit = (i : Instruction) (r : Registers) → (row_of i r).ticks ≤ longest

-- ---- any two outcomes that the promise of `obey` allows are equal
abbrev pub ObeySettled : Type 0
ObeySettled = (i : Instruction) (r : Registers) (e f : Effect) → result_of e (obey i r).change ≡ obey i r → result_of f (obey i r).change ≡ obey i r → e ≡ f
