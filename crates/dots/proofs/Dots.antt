-- Laws of a line: the definition's rows from the patterns and the mark that the code draws.
use Prim.Native.Nat.{ℕ, ◌+◌, ◌*◌, ◌%◌, ◌<◌, ◌≤◌}
use borrow.Author.Tests.{eq-eqb, ne_eqb, eqb-true, eqb-false}
use lib.Dec.{eqb}
use lib.ListN.{length, get_or}
use mathlib.Core.Bool.{Bool, true, false, cond, ◌&&◌}
use mathlib.Core.List.{List}
use mathlib.Core.Path.{◌≡◌, refl, ap, subst, sym, ◌∙◌}
use native.Mathlib.Omega.{arith}
use Rattle.controller.specs.declared.Controller.{Controller}
use Rattle.lent.proofs.Lists.{parts_same, values_same}
use Rattle.size.specs.Size.{rows_of}
use Rattle.dots.specs.Digit.{shown_on}
use Rattle.dots.specs.Dots.{is_dark, pattern_of, is_marked, is_set, five_of, cell_dots, dots_at, line_of}
use Rattle.dots.specs.Promises.{Column}
use Rattle.dots.specs.declared.mark.Mark.{Mark}
use Rattle.dots.specs.declared.phase.Phase.{Phase}
use Rattle.dots.proofs.Columns.{columns_rows}

-- ---- a byte, where the digit is marked or not
plain : (b t : Bool) (p : ℕ) → b ≡ false → p % 0x20 ≡ five_of (b && t) p
unfolding five_of
plain b t p e = rw e

full : (b t : Bool) (p : ℕ) → b ≡ true → cond t 0x1F (p % 0x20) ≡ five_of (b && t) p
unfolding five_of
full b t p e = rw e

-- ---- a line, from its patterns and its mark
module _ (c : Controller) (rom : List ℕ) (phase : Phase) (line digits rows : ℕ) (mark : Mark) where
  abbrev pattern_at : (digit row : ℕ) → ℕ
  pattern_at d q = pattern_of c.character rom rows (get_or c.display (shown_on c.registers.mode.lines c.registers.shift line d).0 0) q

  marked_at : (digit row : ℕ) → ℕ
  marked_at d q = five_of (eqb d mark.digit && is_set mark.cursor mark.blink rows q) (pattern_at d q)

  abbrev Patterns : List ℕ → Type 0
  Patterns out = (d : ℕ) → d < digits → (q : ℕ) → q < rows → get_or out (q * digits + d) 0 ≡ pattern_at d q % 0x20

  abbrev Marked : (before after : List ℕ) → Type 0
  Marked before after = Column (λ q. cond (is_set mark.cursor mark.blink rows q) 0x1F (get_or before (q * digits + mark.digit) 0)) rows digits mark.digit before after

  module _ (out : List ℕ) (drawn : Patterns out) where
    unmarked : digits ≤ mark.digit → (d : ℕ) → d < digits → (q : ℕ) → q < rows → get_or out (q * digits + d) 0 ≡ marked_at d q
    unfolding marked_at
    unmarked past d hd q hq = drawn d hd q hq ∙ plain _ _ _ (ne_eqb d mark.digit (λ e. omega arith))

    marked_from : (after : List ℕ) → Marked out after → mark.digit < digits → (t : Bool) (d : ℕ) → eqb d mark.digit ≡ t → d < digits → (q : ℕ) → q < rows → get_or after (q * digits + d) 0 ≡ marked_at d q
    unfolding marked_at
    marked_from after m here true d e hd q hq =
        subst (λ (j : ℕ). get_or after (q * digits + j) 0 ≡ marked_at j q) (sym (eqb-true d mark.digit e))
        (m.drawn q hq ∙ ap (λ (v : ℕ). cond (is_set mark.cursor mark.blink rows q) 0x1F v) (drawn mark.digit here q hq) ∙ full _ _ _ (eq-eqb mark.digit mark.digit refl))
    marked_from after m here false d e hd q hq = m.kept q d hd (eqb-false d mark.digit e) ∙ drawn d hd q hq ∙ plain _ _ _ e

  module _ (on : c.registers.lights.display ≡ true) (r : rows ≡ rows_of c.registers.mode)
      (m : (mark.cursor ≡ c.registers.lights.cursor) × (mark.blink ≡ c.registers.lights.blink && is_dark phase) × ((d : ℕ) → d < digits → eqb d mark.digit ≡ is_marked c.registers (shown_on c.registers.mode.lines c.registers.shift line d)))
      (before : List ℕ) (drawn : Patterns before) where
    line_dots : (out : List ℕ) → length out ≡ rows * digits → ((d : ℕ) → d < digits → (q : ℕ) → q < rows → get_or out (q * digits + d) 0 ≡ marked_at d q)
        → out ≡ line_of c digits rom phase line
    unfolding line_of dots_at cell_dots marked_at
    line_dots out long at =
        columns_rows marked_at rows digits out long at ∙ rw r (parts_same _ _ _ (λ row _. values_same digits _ _ (λ d l. simp (on, m.0, m.1, m.2 d l))))

    pub line_unmarked : digits ≤ mark.digit → length before ≡ rows * digits → before ≡ line_of c digits rom phase line
    line_unmarked past long = line_dots before long (unmarked before drawn past)

    pub line_marked : (after : List ℕ) → mark.digit < digits → length after ≡ rows * digits → Marked before after
        → after ≡ line_of c digits rom phase line
    line_marked after here long w = line_dots after long (λ d hd. marked_from before drawn after w here (eqb d mark.digit) d refl hd)
