-- What each answer of `report` leaves, and where the record and the line stand.
use Prim.Native.Nat.{ℕ, ◌≤◌, ◌<◌}
use Rattle.std.specs.Prelude.{Ok, Err}
use borrow.Author.Tests.{le-ltb, lt-ltb}
use lib.ListN.{length}
use mathlib.Core.Bool.{or-true}
use mathlib.Core.List.{List}
use mathlib.Core.Path.{◌≡◌, sym}
use Rattle.condition.specs.First.{first_of}
use Rattle.lent.proofs.Front.{front_written}
use Rattle.lent.proofs.Left.{refused_keeps}
use Rattle.lent.specs.Put.{Puts}
use Rattle.record.specs.Record.{most_bytes}
use Rattle.refusal.specs.declared.Refusal.TheVariants.{ShortBuffer}
use Rattle.report.specs.Report.{record_for, line_for, most_line, answer_for, Reported}
use Rattle.report.specs.declared.written.Sizes.{Sizes}

module _ (bytes mended line : List ℕ) where
  refused : answer_for (length mended) (length line) ≡ 6 → Reported bytes mended line (Err ShortBuffer) mended line
  refused e = record { number = sym e; value = tt; mended_buffer = refused_keeps _ _ _ (rw e); line_buffer = refused_keeps _ _ _ (rw e) }

  pub mended_short : length mended < most_bytes → Reported bytes mended line (Err ShortBuffer) mended line
  unfolding answer_for first_of
  mended_short h = refused (rw (lt-ltb (length mended) most_bytes h))

  pub line_short : length line < most_line → Reported bytes mended line (Err ShortBuffer) mended line
  unfolding answer_for first_of
  line_short h = refused (rw (lt-ltb (length line) most_line h, or-true))

  pub both_reported : most_bytes ≤ length mended → most_line ≤ length line → (sizes : Sizes) (mended_left line_left : List ℕ)
      → Puts (record_for bytes) 0 mended sizes.mended mended_left × Puts (line_for bytes) 0 line sizes.line line_left
      → Reported bytes mended line (Ok sizes) mended_left line_left
  unfolding answer_for first_of
  both_reported h k sizes mended_left line_left p =
      let done : answer_for (length mended) (length line) ≡ 0 = rw (le-ltb (length mended) most_bytes h, le-ltb (length line) most_line k) in
      let record_written = front_written (answer_for (length mended) (length line)) _ mended mended_left done _ p.0 in
      let line_written = front_written (answer_for (length mended) (length line)) _ line line_left done _ p.1 in
      record {
        number = sym done;
        value = rw (← record_written.0, ← line_written.0);
        mended_buffer = record_written.1;
        line_buffer = line_written.1;
      }
