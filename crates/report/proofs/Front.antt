-- The record and the line stand at the front of their buffers.
use lib.ListN.{length}
use mathlib.Core.Path.{◌≡◌, ap, sym}
use Rattle.lent.proofs.Left.{at_front}
use Rattle.report.specs.Report.{record_for, line_for, answer_for}
use Rattle.report.specs.Theorems.{ReportedAtTheFront}
use Rattle.report.specs.declared.written.Sizes.{Sizes}

pub reported_at_the_front : ReportedAtTheFront
reported_at_the_front bytes mended line sizes mended_left line_left p =
    let done : answer_for (length mended) (length line) ≡ 0 = sym p.number in
    let counted : sizes ≡ record { mended = length (record_for bytes); line = length (line_for bytes) } = p.value in
    let mended_front = at_front _ sizes.mended (record_for bytes) mended mended_left p.mended_buffer done (ap (λ (s : Sizes). s.mended) counted) in
    let line_front = at_front _ sizes.line (line_for bytes) line line_left p.line_buffer done (ap (λ (s : Sizes). s.line) counted) in
    record { mended_fits = mended_front.0; line_fits = line_front.0; mended_written = mended_front.1; line_written = line_front.1 }
