-- The promise settles the answer and every byte of both buffers, and the number is given exactly when its rule says.
use Rattle.std.proofs.lemmas.Result.{IfOk-at_ok}
use lib.ListN.{length}
use mathlib.Core.Path.{◌≡◌}
use Rattle.condition.proofs.First.{first_given_exactly}
use Rattle.condition.proofs.Settled.{settled}
use Rattle.condition.specs.First.{absent, distinct}
use Rattle.refusal.proofs.Settled.{answers_settled}
use Rattle.report.specs.Report.{record_for, line_for, refusals, answer_for}
use Rattle.report.specs.Theorems.{ReportGivenExactly, ReportSettled}
use Rattle.report.specs.declared.written.Sizes.{Sizes}

pub report_given_exactly : ReportGivenExactly
unfolding answer_for absent distinct
report_given_exactly mended line = first_given_exactly (refusals mended line) 0 tt

pub report_settled : ReportSettled
report_settled bytes mended line r r' mended_left mended_left' line_left line_left' p p' =
    let Counted : Sizes → Type 0 = λ sizes. sizes ≡ record { mended = length (record_for bytes); line = length (line_for bytes) } in (
      answers_settled (λ sizes sizes' e e'. settled (IfOk-at_ok Counted e p.value) (IfOk-at_ok Counted e' p'.value)) p.number p'.number,
      settled p.mended_buffer p'.mended_buffer,
      settled p.line_buffer p'.line_buffer,
    )
