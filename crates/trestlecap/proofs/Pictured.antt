-- Laws of a picture asked for from C.
use Prim.Native.Nat.{ℕ}
use Rattle.std.specs.Option.{ok_or}
use Rattle.std.specs.Prelude.{⊤, Bool, true, false, cond, not, eqb, Result, Ok, Err}
use mathlib.Core.List.{List}
use mathlib.Core.Path.{◌≡◌, refl}
use Rattle.controller.specs.declared.Controller.{Controller}
use Rattle.dots.specs.Dots.{is_phase_of, phase_of as dark_or_not}
use Rattle.dots.specs.declared.phase.Phase.{Phase}
use Rattle.dots.specs.declared.phase.Phase.TheVariants.{Plain, Dark}
use Rattle.picture.specs.Answers.{Pictured}
use Rattle.refusal.specs.Refusals.{number, number_of}
use Rattle.refusal.specs.declared.Refusal.{Refusal}
use Rattle.refusal.specs.declared.Refusal.TheVariants.{NotInRange}
use Rattle.state.specs.Taken.{taken_of}
use Rattle.trestlecap.specs.Called.{number_on, buffer_on, Picturing}
use Rattle.trestlecap.proofs.Held.{held, none_held}

by_number : (plain : Bool) → dark_or_not (not plain) ≡ cond plain Plain Dark
by_number true = refl
by_number false = refl

module _ (state : List ℕ) (digits : ℕ) (rom : List ℕ) (dark : ℕ) (out : List ℕ) where
  pub shown_none : (refusal : Refusal) → Err refusal ≡ ok_or (taken_of state) NotInRange → Picturing state digits rom dark out (number refusal) out
  unfolding number_on buffer_on
  shown_none refusal e = let none = none_held state refusal e in record { number = rw none.0 none.1; buffer = rw none.0 refl }

  pub shown_held : (c : Controller) → Ok c ≡ ok_or (taken_of state) NotInRange → (r : Result ⊤ Refusal) (left : List ℕ) (phase : Phase) → is_phase_of (not (eqb dark 0)) phase → Pictured c digits rom phase out r left
      → Picturing state digits rom dark out (number_of r) left
  unfolding number_on buffer_on
  shown_held c taken r left phase e p =
      let there = held state c taken in
      let shown = rw (e, by_number (eqb dark 0)) at p in
      record { number = rw there shown.number; buffer = rw there shown.buffer }
