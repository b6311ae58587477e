-- The part that a record leaves, as an answer gives it.
use Prim.Native.Nat.{ℕ}
use Rattle.std.specs.Prelude.{Result, Ok, Err}
use Rattle.std.specs.Result.{result_unwrap_or}
use mathlib.Core.List.{List}
use mathlib.Core.Path.{◌≡◌, refl, ◌∙◌}
use Rattle.controller.specs.declared.Controller.{Controller}
use Rattle.refusal.specs.declared.Refusal.{Refusal}
use Rattle.run.specs.Run.{started_from, left_by, part_of, Running}

or_started : (r : Result Controller Refusal) → result_unwrap_or r started_from ≡ part_of r
or_started (Ok part) = refl
or_started (Err refusal) = refl

pub part_left : (bytes : List ℕ) (r : Result Controller Refusal) (start part : Controller) → Running bytes r → start ≡ started_from → part ≡ result_unwrap_or r start → part ≡ left_by bytes
part_left bytes r start part p s e = e ∙ rw s (or_started r) ∙ p.controller
