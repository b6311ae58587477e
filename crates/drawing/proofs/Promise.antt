-- Laws of the promise: what each answer leaves.
use Prim.Native.Nat.{ℕ}
use Rattle.std.specs.Prelude.{Ok, Err}
use lib.Dec.{eqb}
use lib.ListN.{length, drop}
use mathlib.Core.Bool.{false}
use mathlib.Core.List.{List, ◌++◌}
use mathlib.Core.Path.{◌≡◌, sym}
use Rattle.controller.specs.declared.registers.Mode.{Mode}
use Rattle.lent.proofs.Left.{refused_keeps, done_writes_all}
use Rattle.refusal.specs.Refusals.{number}
use Rattle.refusal.specs.declared.Refusal.{Refusal}
use Rattle.drawing.specs.Answers.{answer_for, value_for, Drawing}
use Rattle.drawing.specs.Drawing.{drawing_of}
use Rattle.drawing.specs.declared.form.Form.{Form}

module _ (form : Form) (mode : Mode) (digits : ℕ) (dots out : List ℕ) where
  pub refused : (r : Refusal) → number r ≡ answer_for form mode digits dots out → eqb (number r) 0 ≡ false → Drawing form mode digits dots out (Err r) out
  unfolding value_for
  refused r e z = record { number = e; value = simp (sym e, z); buffer = refused_keeps _ _ _ (rw e at z) }

  pub drawn : (size : ℕ) (new left : List ℕ) → answer_for form mode digits dots out ≡ 0 → size ≡ length (drawing_of form mode digits dots)
      → new ≡ drawing_of form mode digits dots → left ≡ new ++ drop size out → Drawing form mode digits dots out (Ok size) left
  unfolding value_for
  drawn size new left e s n l = record { number = sym e; value = simp e s; buffer = done_writes_all _ size _ new out left e s n l }
