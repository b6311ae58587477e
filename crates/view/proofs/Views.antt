-- Laws of a view: `too long`, a refused record, or the picture of a part in range.
use Prim.Native.Nat.{ℕ, ◌<◌, ◌≤◌}
use Rattle.std.specs.Prelude.{Ok}
use borrow.Author.Tests.{lt-ltb, le-ltb, eq-eqb, ne_eqb}
use lib.ListN.{length}
use mathlib.Core.Bool.{true}
use mathlib.Core.List.{List}
use mathlib.Core.Path.{◌≡◌, sym, ◌∙◌}
use Rattle.condition.proofs.Tests.{is_true}
use Rattle.controller.specs.Part.{in_range}
use Rattle.controller.specs.declared.Controller.{Controller}
use Rattle.record.specs.Record.{most_bytes, events_of, check_of}
use Rattle.refusal.proofs.Settled.{none_is_done}
use Rattle.refusal.specs.Refusals.{number}
use Rattle.refusal.specs.declared.Refusal.{Refusal}
use Rattle.run.proofs.InRange.{ran_in_range}
use Rattle.run.specs.Run.{ran_of, Running}
use Rattle.text.specs.Text.{text_of, refused_of}
use Rattle.view.specs.View.{shown_of, view_of}
use Rattle.view.specs.declared.words.Wanted.{Wanted}

-- ---- the part that a sound record leaves
module _ (bytes : List ℕ) (part : Controller) (p : Running bytes (Ok part)) where
  part_told : part ≡ ran_of (events_of bytes)
  part_told = p.controller ∙ rw (eq-eqb _ _ (sym p.number))

  pub part_in_range : in_range part.registers ≡ true
  part_in_range = rw part_told (is_true _ (ran_in_range (events_of bytes)))

module _ (wanted : Wanted) (rom bytes : List ℕ) where
  pub view_long : most_bytes < length bytes → view_of wanted rom bytes ≡ text_of "too long\n"
  unfolding view_of
  view_long h = rw (lt-ltb most_bytes (length bytes) h)

  pub view_refused : (refusal : Refusal) → length bytes ≤ most_bytes → number refusal ≡ check_of bytes → view_of wanted rom bytes ≡ refused_of (number refusal)
  unfolding view_of
  view_refused refusal h e = rw (le-ltb most_bytes (length bytes) h, ← e, ne_eqb (number refusal) 0 (none_is_done refusal))

  pub view_shown : (part : Controller) → length bytes ≤ most_bytes → Running bytes (Ok part) → view_of wanted rom bytes ≡ shown_of part wanted rom
  unfolding view_of
  view_shown part h p = rw (le-ltb most_bytes (length bytes) h, eq-eqb (check_of bytes) 0 (sym p.number), part_told bytes part p)
