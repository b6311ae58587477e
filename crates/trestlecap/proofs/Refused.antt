-- A refused call leaves the controller as it was.
use Prim.Native.Nat.{ℕ}
use borrow.Author.Tests.{ne_eqb}
use lib.ListN.{length}
use mathlib.Core.Bool.{Bool, true, false, cond}
use mathlib.Core.List.{List}
use mathlib.Core.Path.{◌≡◌, refl}
use Rattle.bedside.specs.Panel.{call_leaves}
use Rattle.bedside.specs.Refusals.{call_answer}
use Rattle.calls.specs.declared.Call.{Call}
use Rattle.controller.specs.Part.{in_range}
use Rattle.controller.specs.Told.{Told, unchanged}
use Rattle.controller.specs.declared.Controller.{Controller}
use Rattle.restart.specs.Writes.{restart_of}

pub refused_call : (call : Call) (characters : List ℕ) (c : Controller) → (call_answer c call (length characters) ≡ 0 → ⊥) → call_leaves c call characters ≡ c
unfolding call_leaves
refused_call call characters c z = rw (ne_eqb (call_answer c call (length characters)) 0 z) refl

by_range : (b : Bool) (t : Told) (c : Controller) → t.said.number ≡ 0 → ((cond b t (unchanged 16 c)).said.number ≡ 0 → ⊥) → (cond b t (unchanged 16 c)).controller ≡ c
by_range true t c e z = absurd (z e)
by_range false t c e z = refl

pub refused_restart : (lower : List ℕ) (c : Controller) → ((restart_of c lower).said.number ≡ 0 → ⊥) → (restart_of c lower).controller ≡ c
unfolding restart_of
refused_restart lower c = by_range (in_range c.registers) _ c refl
