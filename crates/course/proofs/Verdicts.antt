-- The verdicts, each by its condition: too long, a refused record, more than 4,096 events, or what is heard of the request.
use Prim.Native.Nat.{ℕ, ◌+◌, ◌-◌, ◌*◌, ◌≤◌, ◌<◌}
use Rattle.std.specs.Prelude.{Some, None, Ok}
use borrow.Author.Tests.{lt-ltb, le-ltb, eq-eqb, ne_eqb}
use lib.Dec.{eqb, ltb}
use lib.ListN.{length, drop, length-drop}
use lib.Seq.{length-take-le}
use mathlib.Core.Bool.{true, false}
use mathlib.Core.List.{List, ◌++◌}
use mathlib.Core.Path.{◌≡◌, refl, sym, ap, subst, ◌∙◌}
use native.Mathlib.Omega.{arith}
use Rattle.controller.specs.declared.Controller.{Controller}
use Rattle.record.proofs.Framed.{body_size}
use Rattle.record.proofs.Sound.{sound}
use Rattle.record.specs.Record.{most_events, most_bytes, framed, events_of, check_of}
use Rattle.refusal.proofs.Settled.{none_is_done}
use Rattle.refusal.specs.Refusals.{number}
use Rattle.refusal.specs.declared.Refusal.{Refusal}
use Rattle.refusal.specs.declared.Refusal.TheVariants.{Full}
use Rattle.run.specs.Run.{Running}
use Rattle.text.specs.Text.{refused_of}
use Rattle.course.specs.Course.{part_of, added_by, is_full, lengthened, record_for, line_for}
use Rattle.course.specs.Promises.{Heard, Decided}
use Rattle.course.specs.declared.request.Request.{Request}
use Rattle.course.specs.declared.verdict.Said.{Said}
use Rattle.course.specs.declared.verdict.Said.TheVariants.{TooLong, Refused}
use Rattle.course.specs.declared.verdict.Verdict.{Verdict}

-- three bytes for each event behind the head
pub events_counted : (bytes : List ℕ) → check_of bytes ≡ 0 → length (events_of bytes) * 3 + 3 ≡ length bytes
unfolding events_of
events_counted bytes e = let h = sound bytes e in omega (arith, h.whole, h.big, length-drop 3 bytes)

-- the part that a record leaves which is run
pub ran_told : (bytes : List ℕ) (c : Controller) → Running bytes (Ok c) → c ≡ part_of bytes
ran_told bytes c p = p.controller ∙ rw (← p.number)

module _ (request : Request) (characters bytes : List ℕ) where
  abbrev nothing : Said → Verdict
  nothing said = record { said = said; added = None }

  pub too_long : (left : List ℕ) → most_bytes < length bytes → Decided request characters bytes (nothing TooLong) left
  unfolding line_for record_for
  too_long left h =
      let long : ltb most_bytes (length bytes) ≡ true = lt-ltb _ _ h in
      record { line = rw long refl; writable = tt; longer = rw long refl }

  module _ (left : List ℕ) (short : length bytes ≤ most_bytes) where
    within : ltb most_bytes (length bytes) ≡ false
    within = le-ltb _ _ short

    pub record_refused : (refusal : Refusal) → number refusal ≡ check_of bytes → Decided request characters bytes (nothing (Refused refusal)) left
    unfolding line_for record_for
    record_refused refusal e =
        let refused : eqb (check_of bytes) 0 ≡ false = ne_eqb _ _ (λ z. none_is_done refusal (e ∙ z)) in
        record { line = rw (within, refused) (ap refused_of e); writable = tt; longer = rw (within, refused) refl }

    module _ {c : Controller} (ran : Running bytes (Ok c)) {said : Said} {added : ℕ} (heard : Heard c request characters (said, added) left) where
      zero : check_of bytes ≡ 0
      zero = sym ran.number

      there : Heard (part_of bytes) request characters (said, added) left
      there = subst (λ (x : Controller). Heard x request characters (said, added) left) (ran_told bytes c ran) heard

      checked : eqb (check_of bytes) 0 ≡ true
      checked = eq-eqb _ _ zero

      added_counted : added ≡ length (added_by (part_of bytes) request characters) * 3
      added_counted = sym (length-take-le added left there.fits) ∙ ap length there.events ∙ body_size (added_by (part_of bytes) request characters)

      pub full : most_bytes - length bytes < added → Decided request characters bytes (nothing (Refused Full)) left
      unfolding line_for record_for is_full
      full h =
          let more : ltb most_events (length (events_of bytes) + length (added_by (part_of bytes) request characters)) ≡ true =
          lt-ltb most_events (length (events_of bytes) + length (added_by (part_of bytes) request characters)) (omega (arith, events_counted bytes zero, added_counted)) in
          record { line = rw (within, checked, more) refl; writable = tt; longer = rw (within, checked, more) refl }

      pub not_full : added ≤ most_bytes - length bytes → Decided request characters bytes record { said = said; added = Some added } left
      unfolding line_for record_for is_full lengthened
      not_full h =
          let few : ltb most_events (length (events_of bytes) + length (added_by (part_of bytes) request characters)) ≡ false =
          le-ltb most_events (length (events_of bytes) + length (added_by (part_of bytes) request characters)) (omega (arith, events_counted bytes zero, added_counted)) in
          record {
            line = rw (within, checked, few) there.line;
            writable = (omega (arith, events_counted bytes zero), omega arith, there.fits);
            longer = rw (within, checked, few) (ap (λ (l : List ℕ). framed (drop 3 bytes ++ l)) there.events);
          }
