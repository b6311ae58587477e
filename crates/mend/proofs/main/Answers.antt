-- The record and the line lie within their buffers, by the theorem of what is reported.
use Rattle.std.proofs.Common.{sym}
use Rattle.std.proofs.lemmas.List.{length-take-le}
use Rattle.report.proofs.Front.{reported_at_the_front}
use Rattle.mend.proofs.main.Goals as goal

pub slice_bounds-mended-end : goal.slice_bounds-mended-end
slice_bounds-mended-end c = (reported_at_the_front _ _ _ _ _ _ c.in-Ok.ensures).mended_fits

pub slice_bounds-write_all-end : goal.slice_bounds-write_all-end
slice_bounds-write_all-end c = sym (length-take-le _ _ (reported_at_the_front _ _ _ _ _ _ c.in-Ok.ensures).mended_fits)

pub slice_bounds-line-end : goal.slice_bounds-line-end
slice_bounds-line-end c = (reported_at_the_front _ _ _ _ _ _ c.in-Ok.ensures).line_fits

pub slice_bounds-write_all-end-in-Ok : goal.slice_bounds-write_all-end-in-Ok
slice_bounds-write_all-end-in-Ok c = sym (length-take-le _ _ (reported_at_the_front _ _ _ _ _ _ c.in-Ok.ensures).line_fits)
