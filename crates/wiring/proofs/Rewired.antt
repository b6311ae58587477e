-- A whole byte other than a function set acts alike on eight lines and on four: the line count stays, all else comes out the same.
use Prim.Native.Nat.{ℕ, ◌<◌}
use lib.Dec.{T}
use mathlib.Core.Bool.{Bool, true, false, cond, not}
use mathlib.Core.Path.{◌≡◌, ◌∙◌, ap, refl}
use Rattle.condition.proofs.Tests.{each, implies, ◌⇒◌}
use Rattle.controller.specs.Memory.{store_at}
use Rattle.controller.specs.Part.{placed, counter_stepped, passes_end}
use Rattle.controller.specs.Result.{Result, done}
use Rattle.controller.specs.Told.{addressed, carried}
use Rattle.controller.specs.declared.Controller.{Controller}
use Rattle.controller.specs.declared.registers.Registers.{Registers}
use Rattle.counters.specs.Address.{has_display}
use Rattle.counters.specs.declared.shift.Shift.{Shift}
use Rattle.event.specs.Kind.{is_read}
use Rattle.event.specs.declared.Kind.{Kind}
use Rattle.event.specs.declared.Kind.TheVariants.{InstructionWrite, DataWrite, StatusRead, DataRead}
use Rattle.halves.specs.Halves.{answered}
use Rattle.halves.specs.declared.Half.{Half}
use Rattle.halves.specs.declared.LineCount.{LineCount}
use Rattle.instructions.specs.Instructions.{bit, decode, moved, moves_past, obey}
use Rattle.instructions.specs.declared.instruction.Instruction.{Instruction}
use Rattle.instructions.specs.declared.instruction.Instruction.TheVariants.{Nothing, Clear, Home, EntryMode, OnOff, Move, FunctionSet, SetCharacter, SetDisplay}
use Rattle.step.proofs.Joined.{shift_rewired, read_rewired}
use Rattle.step.specs.Acted.{read_from, acted}
use Rattle.step.specs.Data.{write_data, read_data, read_status, act}
use Rattle.wiring.specs.Words.{on_lines, wired, is_function_set}

-- a result on so many lines
abbrev pub result_on : LineCount → Result → Result
result_on b s = record { said = s.said; registers = on_lines b s.registers; change = s.change }

-- ---- instructions
abbrev sets_lines : Instruction → Bool
sets_lines Nothing = false
sets_lines Clear = false
sets_lines Home = false
sets_lines (EntryMode e) = false
sets_lines (OnOff l) = false
sets_lines (Move d right) = false
sets_lines (FunctionSet b m) = true
sets_lines (SetCharacter a) = false
sets_lines (SetDisplay a) = false

-- of the bytes only 20 to 3F do
others_keep_lines : (n : ℕ) → n < 256 → T (not (is_function_set InstructionWrite n)) → T (not (sets_lines (decode n)))
unfolding decode bit
others_keep_lines n h =
    implies (not (is_function_set InstructionWrite n)) (not (sets_lines (decode n)))
    (each (λ m. not (is_function_set InstructionWrite m) ⇒ not (sets_lines (decode m))) 256 tt n h)

choice_rewired : (b : LineCount) (t : Bool) (x y : Result) → cond t (result_on b x) (result_on b y) ≡ result_on b (cond t x y)
choice_rewired b true x y = refl
choice_rewired b false x y = refl

module _ (b : LineCount) (r : Registers) where
  obey_rewired : (i : Instruction) → T (not (sets_lines i)) → obey i (on_lines b r) ≡ result_on b (obey i r)
  unfolding obey moved moves_past
  obey_rewired Nothing t = refl
  obey_rewired Clear t = refl
  obey_rewired Home t = refl
  obey_rewired (EntryMode e) t = refl
  obey_rewired (OnOff l) t = refl
  obey_rewired (Move true right) t = refl
  obey_rewired (Move false right) t = refl
  obey_rewired (FunctionSet c m) t = absurd t
  obey_rewired (SetCharacter a) t = refl
  obey_rewired (SetDisplay a) t = choice_rewired b (not (has_display r.mode.lines a)) _ _

  -- ---- whole bytes
  act_rewired : (k : Kind) (n v : ℕ) → (T (not (is_read k)) → n < 256) → T (not (is_function_set k n)) → act k (on_lines b r) n v ≡ result_on b (act k r n v)
  unfolding act write_data read_status read_data
  act_rewired InstructionWrite n v h t = obey_rewired (decode n) (others_keep_lines n (h tt) t)
  act_rewired DataWrite n v h t =
      ap (λ (s : Shift). done (passes_end r.entry.up r) 0 10 (placed (on_lines b r) (counter_stepped r.entry.up r) s) (store_at r.mode.lines r.counter n))
      (shift_rewired r b Half.Nothing r.counter)
  act_rewired StatusRead n v h t = refl
  act_rewired DataRead n v h t = refl

-- given to the part on so many lines
pub acted_rewired : (b : LineCount) (c : Controller) (k : Kind) (n : ℕ) → (T (not (is_read k)) → n < 256) → T (not (is_function_set k n))
    → acted (wired b c) k n ≡ carried (wired b c) (result_on b (act k c.registers n (answered b (read_from c k))))
acted_rewired b c k n h t =
    ap (λ (v : ℕ). carried (wired b c) (act k (on_lines b c.registers) n (answered b v))) (read_rewired c.registers b Half.Nothing k (addressed c))
    ∙ ap (carried (wired b c)) (act_rewired b c.registers k n (answered b (read_from c k)) h t)
