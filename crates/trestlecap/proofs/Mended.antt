-- Laws of a record mended for C: what stands behind the three pointers.
use Prim.Native.Nat.{ℕ, ◌≤◌}
use Rattle.std.specs.Prelude.{Ok, Err}
use borrow.Author.Tests.{eq-eqb, ne_eqb}
use lib.ListN.{length}
use mathlib.Core.List.{List}
use mathlib.Core.Path.{◌≡◌, refl, sym, ap, ◌∙◌}
use Rattle.condition.specs.Flag.{flag_number}
use Rattle.mending.specs.Mend.{kept_of, mend_of, told_of, Mending}
use Rattle.mending.specs.declared.Mended.{Mended}
use Rattle.record.proofs.FrontEvents.{count_few}
use Rattle.record.specs.Record.{most_events, events_of}
use Rattle.refusal.proofs.Settled.{none_is_done}
use Rattle.refusal.specs.Refusals.{number}
use Rattle.refusal.specs.declared.Refusal.{Refusal}
use Rattle.trestlecap.specs.Called.{MendingRecord}

pub kept_few : (bytes : List ℕ) (said : Mended) → said ≡ told_of bytes → said.kept ≤ most_events
unfolding told_of kept_of events_of
kept_few bytes said e = count_few _ _ (ap (λ (s : Mended). s.kept) e)

module _ (bytes out left : List ℕ) where
  pub mended_said : (said : Mended) → Mending bytes out (Ok said) left → (kept dropped altered : ℕ) → MendingRecord bytes out kept dropped altered 0 left said.kept said.dropped (flag_number said.altered)
  mended_said said m kept dropped altered =
      let done = eq-eqb (mend_of bytes (length out)) 0 (sym m.number) in
      record { number = m.number; buffer = m.buffer; first = rw (done, m.value) refl; second = rw (done, m.value) refl; third = rw (done, m.value) refl }

  pub not_mended : (refusal : Refusal) → Mending bytes out (Err refusal) left → (kept dropped altered : ℕ) → MendingRecord bytes out kept dropped altered (number refusal) left kept dropped altered
  not_mended refusal m kept dropped altered =
      let refused = ne_eqb (mend_of bytes (length out)) 0 (λ z. none_is_done refusal (m.number ∙ z)) in
      record { number = m.number; buffer = m.buffer; first = rw refused refl; second = rw refused refl; third = rw refused refl }
