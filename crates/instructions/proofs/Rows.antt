-- What the nine rows have in common: no half is left, only Clear changes a memory, and only a cursor move passes an end.
use Prim.Native.Nat.{ℕ, ◌<◌, ◌≤◌}
use borrow.Author.Tests.{lt-leb}
use denote.Enum.Bare.{sameb}
use lib.Dec.{T, leb, eqb, eqb→eq, le→leb, lit≤}
use mathlib.Core.Bool.{Bool, true, false, cond, not, ◌&&◌, ◌||◌, beq, and-false}
use mathlib.Core.Path.{◌≡◌, ◌∙◌, ap, refl, subst⁻¹, sym}
use native.Mathlib.Omega.{arith}
use Rattle.condition.proofs.Tests.{each, split, holds, neqb→ne, ◌⇒◌, implies, same}
use Rattle.controller.specs.Memory.{Change}
use Rattle.controller.specs.Part.{awaiting, passes_end}
use Rattle.controller.specs.Result.{Result}
use Rattle.controller.specs.declared.registers.Mode.{Mode}
use Rattle.controller.specs.declared.registers.Registers.{Registers}
use Rattle.counters.specs.contracts.LineMode.{the_type}
use Rattle.counters.specs.declared.LineMode.{LineMode}
use Rattle.counters.specs.declared.LineMode.TheVariants.{One, Two}
use Rattle.halves.specs.declared.Half.{Half}
use Rattle.halves.specs.declared.LineCount.{LineCount}
use Rattle.instructions.specs.Instructions.{bit, decode, moved, moves_past, unless_changed, rearranged, row_of, obey}
use Rattle.instructions.specs.Theorems.{LeavesNoHalf, AnswersDoneOrThree, OnlyClearChanges, is_cursor_move, OnlyCursorMovesPass, TicksFit}
use Rattle.instructions.specs.declared.instruction.Instruction.{Instruction}
use Rattle.instructions.specs.declared.instruction.Instruction.TheVariants.{Nothing, Clear, Home, EntryMode, OnOff, Move, FunctionSet, SetCharacter, SetDisplay}
use Rattle.instructions.proofs.Decoded.{of_decoded}

-- ---- whether N changes, as the code tests it
pub unless_by_eq : {A : Type 0} (before after : LineMode) (old new : A) → unless_changed before after old new ≡ cond (sameb the_type before after) old new
unfolding unless_changed
unless_by_eq One One old new = refl
unless_by_eq One Two old new = refl
unless_by_eq Two One old new = refl
unless_by_eq Two Two old new = refl

-- ---- one obeyed instruction is done, or refused with 3
pub leaves_no_half : LeavesNoHalf
unfolding obey
leaves_no_half i r = split (λ (s : Result). s.registers.half ≡ Half.Nothing) (row_of i r).lacks (λ t. refl) (λ t. refl)

pub answers_done_or_three : AnswersDoneOrThree
unfolding obey
answers_done_or_three i r =
    split (λ (s : Result). T (eqb s.said.number 0 || eqb s.said.number 3)) (row_of i r).lacks (λ t. tt) (λ t. tt)

-- ---- row by row
pub ticks_fit : TicksFit
unfolding row_of
ticks_fit Nothing r = lit≤ tt
ticks_fit Clear r = lit≤ tt
ticks_fit Home r = lit≤ tt
ticks_fit (EntryMode e) r = lit≤ tt
ticks_fit (OnOff l) r = lit≤ tt
ticks_fit (Move d right) r = lit≤ tt
ticks_fit (FunctionSet b m) r = lit≤ tt
ticks_fit (SetCharacter a) r = lit≤ tt
ticks_fit (SetDisplay a) r = lit≤ tt

-- what waits does not matter to any row
pub half_is_forgotten : (i : Instruction) (r : Registers) (h : Half) → obey i (awaiting r h r.busy) ≡ obey i r
unfolding obey moved moves_past rearranged
half_is_forgotten Nothing r h = refl
half_is_forgotten Clear r h = refl
half_is_forgotten Home r h = refl
half_is_forgotten (EntryMode e) r h = refl
half_is_forgotten (OnOff l) r h = refl
half_is_forgotten (Move true right) r h = refl
half_is_forgotten (Move false right) r h = refl
half_is_forgotten (FunctionSet b m) r h = refl
half_is_forgotten (SetCharacter a) r h = refl
half_is_forgotten (SetDisplay a) r h = refl

-- ---- byte by byte
KeepsMemories : Registers → Instruction → Type 0
KeepsMemories r i = (row_of i r).change ≡ Change.Nothing

row_keeps_memories : (b : ℕ) (r : Registers) → T (not (eqb b 0x01)) → KeepsMemories r (decode b)
unfolding KeepsMemories row_of
row_keeps_memories b r t =
    of_decoded (KeepsMemories r) b (record {
      nothing = λ h. refl;
      clear = λ e. absurd (neqb→ne b 0x01 t e);
      home = λ h. refl;
      entry = λ h e. refl;
      lights = λ h l. refl;
      move = λ l h. refl;
      set = λ l c m. refl;
      character = λ l. refl;
      display = λ l a. refl;
    })

pub only_clear_changes : OnlyClearChanges
unfolding obey KeepsMemories
only_clear_changes b r t =
    split (λ (s : Result). s.change ≡ Change.Nothing) (row_of (decode b) r).lacks (λ u. refl) (λ u. row_keeps_memories b r t)

clear_clears : (r : Registers) → (obey (decode 0x01) r).change ≡ Change.Clear
unfolding obey decode
clear_clears r = refl

-- the same as one choice
pub change_by_byte : (b : ℕ) (r : Registers) → (obey (decode b) r).change ≡ cond (eqb b 0x01) Change.Clear Change.Nothing
change_by_byte b r = by_test (eqb b 0x01) refl
  where
    by_test : (t : Bool) → eqb b 0x01 ≡ t → (obey (decode b) r).change ≡ cond t Change.Clear Change.Nothing
    by_test true e = ap (λ (n : ℕ). (obey (decode n) r).change) (eqb→eq b 0x01 (holds (eqb b 0x01) e)) ∙ clear_clears r
    by_test false e = only_clear_changes b r (subst⁻¹ (λ (t : Bool). T (not t)) e tt)

-- ---- past an end
-- by bit 3, a byte from 10 to 1F moves the display or the cursor
move_by_bit : (b : ℕ) → 0x10 ≤ b → b < 0x20 → is_cursor_move b ≡ not (bit 3 b)
unfolding bit
move_by_bit b l h =
    same (is_cursor_move b) (not (bit 3 b))
    (implies (leb 0x10 b) (beq (is_cursor_move b) (not (bit 3 b)))
    (each (λ (n : ℕ). leb 0x10 n ⇒ beq (is_cursor_move n) (not (bit 3 n))) 0x20 tt b h)
    (le→leb 0x10 b l))

moves_past_lem : (display right : Bool) (r : Registers) → moves_past display right r ≡ (not display && passes_end right r)
unfolding moves_past
moves_past_lem true right r = refl
moves_past_lem false right r = refl

Passes : (b : ℕ) → Registers → Instruction → Type 0
Passes b r i = (row_of i r).wrap ≡ (is_cursor_move b && passes_end (bit 2 b) r)

pub only_cursor_moves_pass : OnlyCursorMovesPass
unfolding Passes row_of
only_cursor_moves_pass b r =
    of_decoded (Passes b r) b (record {
      nothing = before;
      clear = λ e. before (omega (arith, e));
      home = before;
      entry = λ h e. before h;
      lights = λ h l. before h;
      move = λ l h. moves_past_lem (bit 3 b) (bit 2 b) r ∙ ap (λ (x : Bool). x && passes_end (bit 2 b) r) (sym (move_by_bit b l h));
      set = λ l c m. behind l;
      character = behind;
      display = λ l a. behind l;
    })
  where
    before : b < 0x10 → false ≡ (is_cursor_move b && passes_end (bit 2 b) r)
    before h = rw (lt-leb 0x10 b h)

    behind : 0x20 ≤ b → false ≡ (is_cursor_move b && passes_end (bit 2 b) r)
    behind l = rw (lt-leb b 0x17 (omega arith), and-false (leb 0x10 b))

-- ---- a function set
module _ (b : LineCount) (m : Mode) (r : Registers) where
  pub function_set_is_done : (obey (FunctionSet b m) r).said.number ≡ 0
  unfolding obey
  function_set_is_done = refl

  pub function_set_sets_lines : (obey (FunctionSet b m) r).registers.bus ≡ b
  unfolding obey
  function_set_sets_lines = refl

  pub function_set_keeps_memories : (obey (FunctionSet b m) r).change ≡ Change.Nothing
  unfolding obey
  function_set_keeps_memories = refl
