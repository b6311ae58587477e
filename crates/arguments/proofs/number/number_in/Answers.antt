-- A character that is no digit, or a number above the most, ends it.
use Rattle.std.proofs.Common.{sym, ◌∙◌, arith}
use native.Mathlib.Nat.{le_antisymm}
use Rattle.arguments.proofs.Numbers.{empty_word, no_digit, grown_large, counted_next, counted_all}
use Rattle.arguments.proofs.number.number_in.Goals as goal

pub returns-then-is_empty : goal.returns-then-is_empty
returns-then-is_empty c = empty_word _ _ (sym c.is_empty.ensures ∙ c.if-is_empty.true)

pub returns-then-not-is_ascii_digit : goal.returns-then-not-is_ascii_digit
returns-then-not-is_ascii_digit c =
    no_digit _ _ _ _ c.loop-character.invariant c.loop-character-test.true (sym c.is_ascii_digit.ensures.value ∙ c.if-not-is_ascii_digit.true)

pub returns-then-from-number : goal.returns-then-from-number
returns-then-from-number c = grown_large _ _ _ _ c.loop-character.invariant c.loop-character-test.true (omega arith)

pub loop-character-preserved : goal.loop-character-preserved
loop-character-preserved c =
    rw c.from.ensures (counted_next _ _ _ _ c.loop-character.invariant c.loop-character-test.true (sym c.is_ascii_digit.ensures.value ∙ c.if-not-is_ascii_digit.false) (omega arith))

pub returns : goal.returns
returns c =
    counted_all _ _ _ _ c.loop-character.invariant (sym c.is_empty.ensures ∙ c.if-is_empty.false) (le_antisymm c.loop-character.invariant.0 c.loop-character-test.false)
