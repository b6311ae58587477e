-- Look-ups, by the range and the two cells of a night.
use Prim.Native.Nat.{ℕ, ◌+◌, ◌≤◌}
use Rattle.std.proofs.lemmas.Option.{cond_some}
use Rattle.std.specs.Prelude.{Option, Some, None}
use lib.Dec.{T, ltb, eqb, eqb→eq, nltb→le}
use mathlib.Core.Bool.{Bool, true, false, cond, not, ◌&&◌}
use mathlib.Core.List.{[], ◌∷◌}
use mathlib.Core.Path.{◌≡◌, ◌∙◌, ap, refl}
use native.Mathlib.Omega.{arith}
use Rattle.bedside.specs.Log.{figure_cell, mark_cell, cell_byte, is_written, figure_of, look_up_answer, look_up_figure}
use Rattle.calls.specs.Nights.{last_night, mark}
use Rattle.condition.proofs.Tests.{is_true, holds, not_not, and_left, and_right, each}
use Rattle.condition.specs.First.{◌when◌, first_of, ExactlyFrom}
use Rattle.controller.specs.Part.{in_range}
use Rattle.controller.specs.declared.Controller.{Controller}
use Rattle.counters.specs.Address.{cell_of}
use Rattle.usage_log.specs.Words.{LooksSame, LooksWritten}
use Rattle.usage_log.proofs.Exactly.{look_up_given_exactly}

pub is_false : (b : Bool) → T (not b) → b ≡ false
is_false true t = absurd t
is_false false t = refl

-- ---- the two cells of a night

pub figure_cell_lem : (night : ℕ) → night ≤ last_night → (figure_cell night).0 ≡ 16 + night
unfolding cell_of
figure_cell_lem night h = eqb→eq _ _ (each (λ (k : ℕ). eqb (figure_cell k).0 (16 + k)) 24 tt night (omega arith))

pub mark_cell_lem : (night : ℕ) → night ≤ last_night → (mark_cell night).0 ≡ 56 + night
unfolding cell_of
mark_cell_lem night h = eqb→eq _ _ (each (λ (k : ℕ). eqb (mark_cell k).0 (56 + k)) 24 tt night (omega arith))

-- ---- a look-up that is not refused

pub record Looked (c : Controller) (night : ℕ) : Type 0 where
  pub within : in_range c.registers ≡ true
  pub in_course : night ≤ last_night

pub looked : (c : Controller) (night : ℕ) → look_up_answer c night ≡ 0 → Looked c night
unfolding ExactlyFrom
looked c night e =
    let ranged : Bool = not (not (in_range c.registers)) in
    let known : Bool = not (ltb last_night night) in
    let both : T (ranged && known) = (look_up_given_exactly c night).1.1.0 e in
    record {
      within = is_true _ (not_not (in_range c.registers) (and_left ranged known both));
      in_course = nltb→le last_night night (and_right ranged known both);
    }

-- ---- two look-ups

-- the night's two cells are alike
abbrev pub CellsAlike : (c t : Controller) (night : ℕ) → Type 0
CellsAlike c t night = (cell_byte t (figure_cell night) ≡ cell_byte c (figure_cell night)) × (cell_byte t (mark_cell night) ≡ cell_byte c (mark_cell night))

cond_alike : (b : Bool) {x y : Option ℕ} → (T b → x ≡ y) → cond b x None ≡ cond b y None
cond_alike true e = e tt
cond_alike false e = refl

module _ (c t : Controller) (night : ℕ) (ranged : in_range t.registers ≡ in_range c.registers) where
  answers_alike : look_up_answer t night ≡ look_up_answer c night
  unfolding look_up_answer
  answers_alike = ap (λ (b : Bool). first_of ((16 when not b) ∷ (11 when ltb last_night night) ∷ []) 0) ranged

  figures_alike : CellsAlike c t night → figure_of t night ≡ figure_of c night
  unfolding figure_of is_written
  figures_alike e = ap (λ (m : ℕ). cond (eqb m mark) (Some (cell_byte t (figure_cell night))) None) e.1 ∙ ap (λ (q : ℕ). cond (eqb (cell_byte c (mark_cell night)) mark) (Some q) None) e.0

  unwritten_alike : T (not (is_written c night)) → cell_byte t (mark_cell night) ≡ cell_byte c (mark_cell night) → figure_of t night ≡ figure_of c night
  unfolding figure_of is_written
  unwritten_alike u e = rw (e, is_false (eqb (cell_byte c (mark_cell night)) mark) u) refl

  pub looks_same : (night ≤ last_night → CellsAlike c t night) → LooksSame c t night
  unfolding look_up_figure
  looks_same e = record {
    number = answers_alike;
    figure =
        ap (λ (n : ℕ). cond (eqb n 0) (figure_of t night) None) answers_alike
        ∙ cond_alike (eqb (look_up_answer c night) 0) (λ u. figures_alike (e (looked c night (eqb→eq (look_up_answer c night) 0 u)).in_course));
  }

  -- a night that is not written looks the same where its mark is alike, whatever its figure
  pub looks_unwritten : T (not (is_written c night)) → cell_byte t (mark_cell night) ≡ cell_byte c (mark_cell night) → LooksSame c t night
  unfolding look_up_figure
  looks_unwritten u e = record {
    number = answers_alike;
    figure = ap (λ (n : ℕ). cond (eqb n 0) (figure_of t night) None) answers_alike ∙ cond_alike (eqb (look_up_answer c night) 0) (λ v. unwritten_alike u e);
  }

-- ---- written

pub looks_written : (c : Controller) (night quarters : ℕ) → look_up_answer c night ≡ 0 → cell_byte c (mark_cell night) ≡ mark → cell_byte c (figure_cell night) ≡ quarters → LooksWritten c night quarters
unfolding look_up_figure figure_of is_written
looks_written c night quarters e m q = record { number = e; figure = rw (e, m, q) refl }

pub still_written : (c t : Controller) (night quarters : ℕ) → LooksSame c t night → LooksWritten c night quarters → LooksWritten t night quarters
still_written c t night quarters same w = record { number = same.number ∙ w.number; figure = same.figure ∙ w.figure }

-- the mark of a night that looks written is 01
pub written_marked : (c : Controller) (night quarters : ℕ) → LooksWritten c night quarters → T (is_written c night)
unfolding look_up_figure figure_of
written_marked c night quarters w = let marked : figure_of c night ≡ Some quarters = rw w.number at w.figure in holds _ (cond_some _ _ _ marked).0
