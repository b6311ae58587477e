-- What the third statement compares: the two memories, the answers of the restart's writes, the fresh part, the pictures.
use Rattle.std.specs.Prelude.{ℕ, zero, suc, eqb, length, Bool, ◌||◌, List, ◌≡◌}
use Rattle.controller.specs.Part.{fresh_with}
use Rattle.controller.specs.Told.{Told}
use Rattle.controller.specs.declared.Controller.{Controller}
use Rattle.dots.specs.declared.phase.Phase.{Phase}
use Rattle.picture.specs.Answers.{answer_for, buffer_for}

-- the two memories are those of c
pub record Holds (c : Controller) (t : Told) : Type 0 where
  pub display : t.controller.display ≡ c.display
  pub character : t.controller.character ≡ c.character

-- the answers that a write of the restart can get: the first one 0, 20, 2 or 3, all others 0 or 20
abbrev pub answers : ℕ → ℕ → Bool
answers zero m = eqb m 0 || (eqb m 20 || (eqb m 2 || eqb m 3))
answers (suc i) m = eqb m 0 || eqb m 20

-- a part just switched on that was given the two memories of c
abbrev pub fresh_like : Controller → Controller
fresh_like c = fresh_with c.display c.character

-- asked for the same picture, both answer the same and leave the same bytes in the lent buffer
pub record ShownAlike (a b : Controller) (digits : ℕ) (rom : List ℕ) (phase : Phase) (out : List ℕ) : Type 0 where
  pub answer : answer_for a digits (length rom) (length out) ≡ answer_for b digits (length rom) (length out)
  pub buffer : buffer_for a digits rom phase out ≡ buffer_for b digits rom phase out
