-- Laws of the promise: what the tests of a call tell, and what each answer leaves.
use Prim.Native.Nat.{ℕ, ◌<◌}
use Rattle.std.specs.Prelude.{⊤, Result, Ok}
use lib.Dec.{T, eqb, leb→le}
use lib.ListN.{length, drop}
use mathlib.Core.Bool.{true, false}
use mathlib.Core.List.{List, ◌++◌}
use mathlib.Core.Path.{◌≡◌, sym, ◌∙◌}
use native.Mathlib.Omega.{arith}
use Rattle.condition.proofs.Tests.{holds}
use Rattle.controller.proofs.Ranged.{facts}
use Rattle.controller.specs.Part.{in_range}
use Rattle.controller.specs.declared.Controller.{Controller}
use Rattle.controller.specs.declared.registers.Registers.{Registers}
use Rattle.counters.specs.Shift.{last_shift, has_shift}
use Rattle.counters.specs.declared.LineMode.{LineMode}
use Rattle.counters.specs.declared.LineMode.TheVariants.{One, Two}
use Rattle.counters.specs.declared.shift.Shift.{Shift}
use Rattle.dots.specs.declared.phase.Phase.{Phase}
use Rattle.lent.proofs.Left.{refused_keeps, done_writes_all}
use Rattle.refusal.specs.Refusals.{number_of}
use Rattle.refusal.specs.declared.Refusal.{Refusal}
use Rattle.size.specs.Size.{most_digits, bytes_of}
use Rattle.picture.specs.Answers.{answer_for, buffer_for, Pictured}
use Rattle.picture.specs.Picture.{picture_of}
use Rattle.picture.proofs.Lines.{length_picture}

-- ---- what the tests tell
shift_small : (lines : LineMode) (s : Shift) → T (has_shift lines s) → s.0 < most_digits lines
unfolding has_shift last_shift most_digits
shift_small One s t = omega (arith, leb→le s.0 79 t)
shift_small Two s t = omega (arith, leb→le s.0 39 t)

pub shift_in_range : (r : Registers) → in_range r ≡ true → r.shift.0 < most_digits r.mode.lines
shift_in_range r h = shift_small r.mode.lines r.shift (facts r (holds (in_range r) h)).shift

-- ---- what each answer leaves
module _ (c : Controller) (digits : ℕ) (rom : List ℕ) (phase : Phase) (out : List ℕ) where
  pub refused : (r : Result ⊤ Refusal) → number_of r ≡ answer_for c digits (length rom) (length out) → eqb (number_of r) 0 ≡ false → Pictured c digits rom phase out r out
  unfolding buffer_for
  refused r e z = record { number = e; buffer = refused_keeps _ _ _ (rw e at z) }

  pub drawn : (bytes : ℕ) (new left : List ℕ) → answer_for c digits (length rom) (length out) ≡ 0 → bytes ≡ bytes_of c.registers.mode digits
      → new ≡ picture_of c digits rom phase → left ≡ new ++ drop bytes out → Pictured c digits rom phase out (Ok tt) left
  unfolding buffer_for
  drawn bytes new left e b n l =
      record { number = sym e; buffer = done_writes_all _ bytes _ new out left e (b ∙ sym (length_picture c digits rom phase)) n l }
