-- A refused list leaves the controller and the buffer as they were.
use Prim.Native.Nat.{ℕ}
use borrow.Author.Tests.{ne_eqb}
use lib.ListN.{length}
use mathlib.Core.List.{List}
use mathlib.Core.Path.{◌≡◌, refl, sym, ◌∙◌}
use Rattle.controller.specs.declared.Controller.{Controller}
use Rattle.lent.proofs.Left.{refused_keeps}
use Rattle.refusal.proofs.Settled.{none_is_done}
use Rattle.refusal.specs.Refusals.{number}
use Rattle.refusal.specs.declared.Refusal.{Refusal}
use Rattle.list.specs.List.{answer_for, left_for, buffer_for, Listing}
use Rattle.list.specs.Theorems.{RefusedListLeaves}

pub refused_list_leaves : RefusedListLeaves
unfolding left_for buffer_for
refused_list_leaves c events answers n =
    let refused = ne_eqb (answer_for c.registers events (length answers)) 0 n in
    (rw refused refl, sym (refused_keeps _ _ answers refused))

pub list_refused : (c : Controller) (events answers : List ℕ) (refusal : Refusal) → number refusal ≡ answer_for c.registers events (length answers) → Listing c events answers (number refusal) c answers
list_refused c events answers refusal e =
    let left = refused_list_leaves c events answers (λ z. none_is_done refusal (e ∙ z)) in
    record { number = e; controller = sym left.0; buffer = sym left.1 }
