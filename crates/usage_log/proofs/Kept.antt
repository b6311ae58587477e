-- What texts and nights logged keep of the log.
use Prim.Native.Nat.{ℕ, ◌+◌, ◌≤◌}
use lib.ListN.{length, get_or}
use mathlib.Core.Bool.{true}
use mathlib.Core.List.{List, []}
use mathlib.Core.Logic.{◌⊎◌, ◌≢◌, inl, inr, ⊎_elim}
use mathlib.Core.Path.{◌≡◌, ◌∙◌, refl, sym}
use native.Mathlib.Omega.{arith}
use Rattle.bedside.proofs.Called.{call_taken, sixteen_taken, night_taken}
use Rattle.bedside.specs.Log.{figure_cell, mark_cell}
use Rattle.calls.specs.Nights.{last_night}
use Rattle.calls.specs.declared.Call.{Call}
use Rattle.calls.specs.declared.Call.TheVariants.{Text, Log}
use Rattle.condition.proofs.Tests.{is_true, holds}
use Rattle.controller.specs.Part.{in_range}
use Rattle.controller.specs.declared.Controller.{Controller}
use Rattle.record.specs.Reading.{AllSmall}
use Rattle.usage_log.specs.Theorems.{TextKeepsLog, LoggingKeepsOthers}
use Rattle.usage_log.specs.Words.{LooksSame, end_of}
use Rattle.usage_log.proofs.Called.{of_call, end_in_range, text_keeps_cell, log_off_line, log_keeps_cell}
use Rattle.usage_log.proofs.Looked.{figure_cell_lem, mark_cell_lem, looks_same}

pub same_self : (c : Controller) (night : ℕ) → LooksSame c c night
same_self c night = record { number = refl; figure = refl }

-- where a call ends the part is in range, as it was
ranged_alike : (c : Controller) (call : Call) (characters : List ℕ) → in_range c.registers ≡ true → in_range (end_of c call characters).registers ≡ in_range c.registers
ranged_alike c call characters e = is_true _ (end_in_range c call characters (holds _ e)) ∙ sym e

-- ---- texts

pub text_keeps_log : TextKeepsLog
unfolding end_of
text_keeps_log c line characters small = record {
  log = λ night.
      of_call (λ (t : Controller). LooksSame c t night) c (Text line) characters small (same_self c night) λ e.
      let r = call_taken c (Text line) (length characters) e in
      let sixteen = sixteen_taken line (length characters) r.own in
      looks_same c (end_of c (Text line) characters) night (ranged_alike c (Text line) characters r.within) λ h. (
        text_keeps_cell line characters c.display (figure_cell night).0 sixteen (log_off_line line night (figure_cell night).0 h (inl (figure_cell_lem night h))),
        text_keeps_cell line characters c.display (mark_cell night).0 sixteen (log_off_line line night (mark_cell night).0 h (inr (mark_cell_lem night h))),
      );
  cells = λ i off.
      of_call (λ (t : Controller). get_or t.display i 0 ≡ get_or c.display i 0) c (Text line) characters small refl λ e.
      text_keeps_cell line characters c.display i (sixteen_taken line (length characters) (call_taken c (Text line) (length characters) e).own) off;
  character = of_call (λ (t : Controller). t.character ≡ c.character) c (Text line) characters small refl λ e. refl;
}

-- ---- nights logged

pub no_characters : AllSmall []
no_characters i = omega arith

-- the cells of another night are other ones
pub night_apart : (night other i : ℕ) → night ≤ last_night → other ≤ last_night → other ≢ night → (i ≡ 16 + other) ⊎ (i ≡ 56 + other) → (i ≢ (figure_cell night).0) × (i ≢ (mark_cell night).0)
night_apart night other i h k n at =
    let f = figure_cell_lem night h in
    let m = mark_cell_lem night h in (
      λ e. ⊎_elim (λ a. n (omega (arith, e, f, a))) (λ a. omega (arith, e, f, a)) at,
      λ e. ⊎_elim (λ a. omega (arith, e, m, a)) (λ a. n (omega (arith, e, m, a))) at,
    )

pub logging_keeps_others : LoggingKeepsOthers
unfolding end_of
logging_keeps_others c night quarters = record {
  two_cells = λ i m n.
      of_call (λ (t : Controller). get_or t.display i 0 ≡ get_or c.display i 0) c (Log night quarters) [] no_characters refl λ e.
      log_keeps_cell night quarters [] c.display i m n;
  character = of_call (λ (t : Controller). t.character ≡ c.character) c (Log night quarters) [] no_characters refl λ e. refl;
  others = λ other n.
      of_call (λ (t : Controller). LooksSame c t other) c (Log night quarters) [] no_characters (same_self c other) λ e.
      let r = call_taken c (Log night quarters) 0 e in
      let t = night_taken c night quarters r.own in
      looks_same c (end_of c (Log night quarters) []) other (ranged_alike c (Log night quarters) [] r.within) λ h.
      let f = night_apart night other (figure_cell other).0 t.in_course h n (inl (figure_cell_lem other h)) in
      let m = night_apart night other (mark_cell other).0 t.in_course h n (inr (mark_cell_lem other h)) in (
        log_keeps_cell night quarters [] c.display (figure_cell other).0 f.0 f.1,
        log_keeps_cell night quarters [] c.display (mark_cell other).0 m.0 m.1,
      );
}
