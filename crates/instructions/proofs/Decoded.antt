-- The nine ranges of the instruction byte: the tests of the lower ranges fail, and its own holds.
use Prim.Native.Nat.{ℕ, ◌%◌, ◌<◌, ◌≤◌}
use borrow.Author.Tests.{lt-ltb, le-ltb}
use lib.Dec.{ltb, ltb→lt, nltb→le}
use mathlib.Core.Path.{◌≡◌}
use native.Mathlib.Omega.{arith}
use Rattle.condition.proofs.Tests.{split}
use Rattle.controller.specs.declared.registers.Entry.{Entry}
use Rattle.controller.specs.declared.registers.Lights.{Lights}
use Rattle.controller.specs.declared.registers.Mode.{Mode}
use Rattle.counters.specs.Address.{character}
use Rattle.counters.specs.declared.address.DisplayAddress.{DisplayAddress}
use Rattle.halves.specs.declared.LineCount.{LineCount}
use Rattle.instructions.specs.Instructions.{bit, decode}
use Rattle.instructions.specs.Theorems.{DecodedByRange}
use Rattle.instructions.specs.declared.instruction.Instruction.{Instruction}
use Rattle.instructions.specs.declared.instruction.Instruction.TheVariants.{Nothing, Clear, Home, EntryMode, OnOff, Move, FunctionSet, SetCharacter, SetDisplay}

pub decoded_by_range : DecodedByRange
unfolding decode
decoded_by_range b = record {
  nothing = λ h. simp (lt-ltb b 0x01 h);
  clear = λ l h. simp (le-ltb b 0x01 l, lt-ltb b 0x02 h);
  home = λ l h. simp (le-ltb b 0x01 (omega arith), le-ltb b 0x02 l, lt-ltb b 0x04 h);
  entry = λ l h. simp (le-ltb b 0x01 (omega arith), le-ltb b 0x02 (omega arith), le-ltb b 0x04 l, lt-ltb b 0x08 h);
  lights = λ l h. simp (le-ltb b 0x01 (omega arith), le-ltb b 0x02 (omega arith), le-ltb b 0x04 (omega arith), le-ltb b 0x08 l, lt-ltb b 0x10 h);
  move = λ l h. simp (le-ltb b 0x01 (omega arith), le-ltb b 0x02 (omega arith), le-ltb b 0x04 (omega arith), le-ltb b 0x08 (omega arith), le-ltb b 0x10 l, lt-ltb b 0x20 h);
  set = λ l h. simp (le-ltb b 0x01 (omega arith), le-ltb b 0x02 (omega arith), le-ltb b 0x04 (omega arith), le-ltb b 0x08 (omega arith), le-ltb b 0x10 (omega arith), le-ltb b 0x20 l, lt-ltb b 0x40 h);
  character = λ l h. simp (le-ltb b 0x01 (omega arith), le-ltb b 0x02 (omega arith), le-ltb b 0x04 (omega arith), le-ltb b 0x08 (omega arith), le-ltb b 0x10 (omega arith), le-ltb b 0x20 (omega arith), le-ltb b 0x40 l, lt-ltb b 0x80 h);
  display = λ l. simp (le-ltb b 0x01 (omega arith), le-ltb b 0x02 (omega arith), le-ltb b 0x04 (omega arith), le-ltb b 0x08 (omega arith), le-ltb b 0x10 (omega arith), le-ltb b 0x20 (omega arith), le-ltb b 0x40 (omega arith), le-ltb b 0x80 l);
}

-- ---- a fact of each instruction that a byte can be is a fact of the byte's own; the cases before and behind the moves know that they are
pub record Each (P : Instruction → Type 0) (b : ℕ) : Type 0 where
  pub nothing : b < 0x10 → P Nothing
  pub clear : b ≡ 0x01 → P Clear
  pub home : b < 0x10 → P Home
  pub entry : b < 0x10 → (e : Entry) → P (EntryMode e)
  pub lights : b < 0x10 → (l : Lights) → P (OnOff l)
  pub move : 0x10 ≤ b → b < 0x20 → P (Move (bit 3 b) (bit 2 b))
  pub set : 0x20 ≤ b → (c : LineCount) (m : Mode) → P (FunctionSet c m)
  pub character : 0x20 ≤ b → P (SetCharacter (character (b % 0x40)))
  pub display : 0x20 ≤ b → (a : DisplayAddress) → P (SetDisplay a)

pub of_decoded : (P : Instruction → Type 0) (b : ℕ) → Each P b → P (decode b)
unfolding decode
of_decoded P b f =
    split P (ltb b 0x01) (λ t. f.nothing (omega (arith, ltb→lt b 0x01 t))) (λ t.
    split P (ltb b 0x02) (λ u. f.clear (omega (arith, nltb→le b 0x01 t, ltb→lt b 0x02 u))) (λ u.
    split P (ltb b 0x04) (λ v. f.home (omega (arith, ltb→lt b 0x04 v))) (λ v.
    split P (ltb b 0x08) (λ w. f.entry (omega (arith, ltb→lt b 0x08 w)) _) (λ w.
    split P (ltb b 0x10) (λ x. f.lights (ltb→lt b 0x10 x) _) (λ x.
    split P (ltb b 0x20) (λ y. f.move (nltb→le b 0x10 x) (ltb→lt b 0x20 y)) (λ y.
    split P (ltb b 0x40) (λ z. f.set (nltb→le b 0x20 y) _ _) (λ z.
    split P (ltb b 0x80) (λ z. f.character (nltb→le b 0x20 y)) (λ z. f.display (nltb→le b 0x20 y) _))))))))
