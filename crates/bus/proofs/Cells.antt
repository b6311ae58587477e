-- A transfer changes at most the one addressed cell, unless it is Clear.
use Prim.Native.Nat.{ℕ}
use lib.Dec.{T, eqb, eqb→eq, T_not}
use lib.ListN.{get_or}
use lib.Seq.{get_or-set_other}
use mathlib.Core.Bool.{Bool, true, false, cond, not, ◌&&◌}
use mathlib.Core.List.{List}
use mathlib.Core.Logic.{⊎_elim}
use mathlib.Core.Path.{◌≡◌, ◌∙◌, ap, refl, subst⁻¹}
use Rattle.condition.proofs.Tests.{holds, neqb→ne}
use Rattle.controller.specs.Memory.{Change, store_at, display_after, character_after}
use Rattle.controller.specs.Result.{Result}
use Rattle.controller.specs.Told.{Told, addressed, carried}
use Rattle.controller.specs.declared.Controller.{Controller}
use Rattle.counters.specs.Address.{cell_of}
use Rattle.counters.specs.declared.LineMode.{LineMode}
use Rattle.counters.specs.declared.counter.Counter.{Counter}
use Rattle.counters.specs.declared.counter.Counter.TheVariants.{Display, Character}
use Rattle.event.specs.declared.Kind.{Kind}
use Rattle.event.specs.declared.Kind.TheVariants.{InstructionWrite, DataWrite, StatusRead, DataRead}
use Rattle.instructions.proofs.Rows.{change_by_byte}
use Rattle.instructions.specs.Instructions.{decode, obey}
use Rattle.step.specs.Data.{write_data, read_data, read_status, act}
use Rattle.step.specs.Step.{first_half}
use Rattle.bus.specs.Refusals.{byte_of}
use Rattle.bus.specs.Theorems.{names_cell, names_character, clears, Cells, OneCellAtMost}
use Rattle.bus.proofs.Outcomes.{of_step, of_transfer}

-- ---- one stored byte
stored_display : (lines : LineMode) (k : Counter) (m : ℕ) (d : List ℕ) (i : ℕ) → T (not (names_cell lines k i))
    → get_or (display_after (store_at lines k m) d) i 0 ≡ get_or d i 0
unfolding store_at display_after
stored_display lines (Display a) m d i t = get_or-set_other d (cell_of lines a).0 i m 0 (neqb→ne i (cell_of lines a).0 t)
stored_display lines (Character a) m d i t = refl

stored_character : (lines : LineMode) (k : Counter) (m : ℕ) (d : List ℕ) (j : ℕ) → T (not (names_character k j))
    → get_or (character_after (store_at lines k m) d) j 0 ≡ get_or d j 0
unfolding store_at character_after
stored_character lines (Display a) m d j t = refl
stored_character lines (Character a) m d j t = get_or-set_other d a.0 j m 0 (neqb→ne j a.0 t)

module _ (c : Controller) (n : ℕ) where
  -- an answer other than 0 is no Clear
  not_cleared : (k : Kind) (m : ℕ) → T (not (eqb m 0)) → T (not (clears k c n m))
  unfolding clears
  not_cleared InstructionWrite m t = none_of (eqb m 0) t
    where
      none_of : (b : Bool) → T (not b) → T (not (b && eqb (byte_of c.registers n) 0x01))
      none_of true u = absurd u
      none_of false u = tt
  not_cleared DataWrite m t = tt
  not_cleared StatusRead m t = tt
  not_cleared DataRead m t = tt

  -- both memories as they were
  same_memories : (k : Kind) (t : Told) → t.controller.display ≡ c.display → t.controller.character ≡ c.character
      → T (not (clears k c n t.said.number)) → Cells c k n t
  same_memories k t d m u = record {
    other_cells = λ v i w. ap (λ (l : List ℕ). get_or l i 0) d;
    other_characters = λ j w. ap (λ (l : List ℕ). get_or l j 0) m;
    cleared = λ v. absurd (T_not (clears k c n t.said.number) u v);
    none = λ v. (d, m);
  }

  Carried : Kind → Result → Type 0
  Carried k s = Cells c k n (carried c s)

  abbrev byte : ℕ
  byte = byte_of c.registers n

  -- an instruction: Clear, or one that changes no memory
  module _ (m : Change) (e : (obey (decode byte) c.registers).change ≡ m) where
    display_as : display_after (obey (decode byte) c.registers).change c.display ≡ display_after m c.display
    display_as = ap (λ (x : Change). display_after x c.display) e

    character_as : character_after (obey (decode byte) c.registers).change c.character ≡ character_after m c.character
    character_as = ap (λ (x : Change). character_after x c.character) e

  change_as : (b : Bool) → eqb byte 0x01 ≡ b → (obey (decode byte) c.registers).change ≡ cond b Change.Clear Change.Nothing
  change_as b e = change_by_byte byte c.registers ∙ ap (λ (x : Bool). cond x Change.Clear Change.Nothing) e

  -- Clear is never refused
  clear_done : eqb byte 0x01 ≡ true → (obey (decode byte) c.registers).said.number ≡ 0
  unfolding obey decode
  clear_done e = subst⁻¹ (λ (b : ℕ). (obey (decode b) c.registers).said.number ≡ 0) (eqb→eq byte 0x01 (holds (eqb byte 0x01) e)) refl

  is_clear : eqb byte 0x01 ≡ true → T (clears InstructionWrite c n (obey (decode byte) c.registers).said.number)
  unfolding clears
  is_clear e = rw (clear_done e, e) tt

  no_clear : (m : ℕ) → eqb byte 0x01 ≡ false → T (not (clears InstructionWrite c n m))
  unfolding clears
  no_clear m e = rw e (both_false (eqb m 0))
    where
      both_false : (b : Bool) → T (not (b && false))
      both_false true = tt
      both_false false = tt

  obeyed : (b : Bool) → eqb byte 0x01 ≡ b → Carried InstructionWrite (obey (decode byte) c.registers)
  unfolding Carried display_after character_after
  obeyed true e = record {
    other_cells = λ v. absurd (T_not (clears InstructionWrite c n (obey (decode byte) c.registers).said.number) v (is_clear e));
    other_characters = λ j v. ap (λ (l : List ℕ). get_or l j 0) (character_as Change.Clear (change_as true e));
    cleared = λ v. (display_as Change.Clear (change_as true e), character_as Change.Clear (change_as true e));
    none = ⊎_elim (λ v. absurd v) (λ v. absurd (v (clear_done e)));
  }
  obeyed false e =
      same_memories InstructionWrite (carried c (obey (decode byte) c.registers)) (display_as Change.Nothing (change_as false e))
      (character_as Change.Nothing (change_as false e))
      (no_clear (obey (decode byte) c.registers).said.number e)

  act_cells : (k : Kind) (v : ℕ) → Carried k (act k c.registers byte v)
  unfolding Carried clears act write_data read_status read_data display_after character_after
  act_cells InstructionWrite v = obeyed (eqb byte 0x01) refl
  act_cells DataWrite v = record {
    other_cells = λ t. stored_display c.registers.mode.lines c.registers.counter byte c.display;
    other_characters = stored_character c.registers.mode.lines c.registers.counter byte c.character;
    cleared = λ t. absurd t;
    none = ⊎_elim (λ t. absurd t) (λ t. absurd (t refl));
  }
  act_cells StatusRead v = same_memories StatusRead _ refl refl tt
  act_cells DataRead v = same_memories DataRead _ refl refl tt

pub one_cell_at_most : OneCellAtMost
unfolding Carried first_half display_after character_after
one_cell_at_most c k n =
    of_transfer (Cells c k n) c k n
    (λ t. of_step (Carried c n k) c.registers k n (addressed c)
    (same_memories c n k _ refl refl (not_cleared c n k 1 tt))
    (act_cells c n k)
    (λ v u. same_memories c n k _ refl refl (not_cleared c n k 20 tt))
    (same_memories c n k _ refl refl (not_cleared c n k 2 tt)))
    (same_memories c n k _ refl refl (not_cleared c n k 16 tt))
