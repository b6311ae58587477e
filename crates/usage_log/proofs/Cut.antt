-- What was logged is read, and a log call that is cut leaves the night as it was or as logged.
use Prim.Native.Nat.{ℕ, ◌≤◌}
use lib.Dec.{T}
use lib.ListN.{set, get_or, take, length-set}
use lib.Seq.{get_or-set_same, get_or-set_other}
use mathlib.Core.Bool.{true, not}
use mathlib.Core.List.{List, []}
use mathlib.Core.Logic.{◌⊎◌, ◌≢◌, inl, inr}
use mathlib.Core.Path.{◌≡◌, ◌∙◌, ap, refl, sym, subst⁻¹}
use native.Mathlib.Omega.{arith}
use Rattle.bedside.proofs.Called.{call_taken, NightTaken, night_taken}
use Rattle.bedside.proofs.Found.{not_refused_lem}
use Rattle.bedside.specs.Log.{figure_cell, mark_cell}
use Rattle.bedside.specs.Refusals.{most_quarters}
use Rattle.bus.proofs.Range.{events_kept}
use Rattle.bus.specs.Written.{Whole}
use Rattle.calls.specs.Events.{log_events}
use Rattle.calls.specs.Nights.{last_night, mark}
use Rattle.calls.specs.declared.Call.TheVariants.{Log}
use Rattle.condition.proofs.Tests.{is_true, holds}
use Rattle.controller.proofs.Ranged.{facts}
use Rattle.controller.specs.Part.{in_range}
use Rattle.controller.specs.declared.Controller.{Controller}
use Rattle.usage_log.specs.Theorems.{LoggedIsRead, CutLeavesOldOrNew}
use Rattle.usage_log.specs.Words.{LooksSame, LooksWritten, cells_after, end_of}
use Rattle.usage_log.proofs.Along.{Along, cut_along}
use Rattle.usage_log.proofs.Called.{call_ends, end_in_range, log_keeps_cell}
use Rattle.usage_log.proofs.Ends.{log_along}
use Rattle.usage_log.proofs.Kept.{no_characters, night_apart}
use Rattle.usage_log.proofs.Looked.{figure_cell_lem, mark_cell_lem, looks_same, looks_unwritten, looks_written}
use Rattle.usage_log.proofs.Given.{Ready, ready_facts}

module _ (c : Controller) (night quarters : ℕ) (whole : Whole c) (within : in_range c.registers ≡ true) (taken : NightTaken c night quarters) where
  abbrev between : List ℕ
  between = set c.display (figure_cell night).0 quarters

  abbrev behind : List ℕ
  behind = set between (mark_cell night).0 mark

  -- a part in range that holds the figure and the mark reads as logged
  reads_logged : (t : Controller) → t.display ≡ behind → in_range t.registers ≡ true → LooksWritten t night quarters
  reads_logged t e ranged =
      let h : night ≤ last_night = taken.in_course in
      let f = figure_cell_lem night h in
      let m = mark_cell_lem night h in
      looks_written t night quarters (sym (not_refused_lem t night (ap not ranged) h))
      (ap (λ (d : List ℕ). get_or d (mark_cell night).0 0) e ∙ get_or-set_same between (mark_cell night).0 mark 0 (omega (arith, m, whole.display, length-set c.display (figure_cell night).0 quarters)))
      (ap (λ (d : List ℕ). get_or d (figure_cell night).0 0) e
      ∙ get_or-set_other between (mark_cell night).0 (figure_cell night).0 mark 0 (λ x. omega (arith, x, f, m))
      ∙ get_or-set_same c.display (figure_cell night).0 quarters 0 (omega (arith, f, whole.display)))

  -- what display memory may hold where the call is cut, whatever else the part holds
  Cut : List ℕ → Type 0
  Cut d =
      (t : Controller) → t.display ≡ d → in_range t.registers ≡ true
      → (LooksSame c t night ⊎ LooksWritten t night quarters) × ((other : ℕ) → other ≢ night → LooksSame c t other)

  ranged_alike : (t : Controller) → in_range t.registers ≡ true → in_range t.registers ≡ in_range c.registers
  ranged_alike t e = e ∙ sym within

  cut_before : Cut c.display
  unfolding Cut
  cut_before t e ranged =
      let alike : (i : ℕ) → get_or t.display i 0 ≡ get_or c.display i 0 = λ i. ap (λ (d : List ℕ). get_or d i 0) e in
      let same : (k : ℕ) → LooksSame c t k = λ k. looks_same c t k (ranged_alike t ranged) λ h. (alike (figure_cell k).0, alike (mark_cell k).0) in
      (inl (same night), λ other n. same other)

  cut_between : Cut between
  unfolding Cut
  cut_between t e ranged =
      let h : night ≤ last_night = taken.in_course in
      let kept : (i : ℕ) → i ≢ (figure_cell night).0 → get_or t.display i 0 ≡ get_or c.display i 0 =
      λ i n. ap (λ (d : List ℕ). get_or d i 0) e ∙ get_or-set_other c.display (figure_cell night).0 i quarters 0 n in (
        inl (looks_unwritten c t night (ranged_alike t ranged) taken.unwritten (kept (mark_cell night).0 (λ x. omega (arith, x, figure_cell_lem night h, mark_cell_lem night h)))),
        λ other n.
            looks_same c t other (ranged_alike t ranged) λ k. (
              kept (figure_cell other).0 (night_apart night other (figure_cell other).0 h k n (inl (figure_cell_lem other k))).0,
              kept (mark_cell other).0 (night_apart night other (mark_cell other).0 h k n (inr (mark_cell_lem other k))).0,
            ),
      )

  cut_behind : Cut behind
  unfolding Cut cells_after
  cut_behind t e ranged =
      let h : night ≤ last_night = taken.in_course in
      let kept : (i : ℕ) → i ≢ (figure_cell night).0 → i ≢ (mark_cell night).0 → get_or t.display i 0 ≡ get_or c.display i 0 =
      λ i m n. ap (λ (d : List ℕ). get_or d i 0) e ∙ log_keeps_cell night quarters [] c.display i m n in (
        inr (reads_logged t e ranged),
        λ other n.
            looks_same c t other (ranged_alike t ranged) λ k. (
              kept (figure_cell other).0 (night_apart night other (figure_cell other).0 h k n (inl (figure_cell_lem other k))).0 (night_apart night other (figure_cell other).0 h k n (inl (figure_cell_lem other k))).1,
              kept (mark_cell other).0 (night_apart night other (mark_cell other).0 h k n (inr (mark_cell_lem other k))).0 (night_apart night other (mark_cell other).0 h k n (inr (mark_cell_lem other k))).1,
            ),
      )

pub logged_is_read : LoggedIsRead
unfolding end_of cells_after
logged_is_read c night quarters whole e =
    let ready = call_taken c (Log night quarters) 0 e in
    let taken : NightTaken c night quarters = night_taken c night quarters ready.own in
    let t : Controller = end_of c (Log night quarters) [] in
    let reads : LooksWritten t night quarters = reads_logged c night quarters whole ready.within taken t refl (is_true _ (end_in_range c (Log night quarters) [] (holds _ ready.within))) in
    subst⁻¹ (λ (x : Controller). LooksWritten x night quarters) (call_ends c (Log night quarters) [] no_characters e).end reads

pub cut_leaves_old_or_new : CutLeavesOldOrNew
unfolding Cut
cut_leaves_old_or_new cut c night quarters whole e =
    let called = call_taken c (Log night quarters) 0 e in
    let taken : NightTaken c night quarters = night_taken c night quarters called.own in
    let ready : Ready c.registers = ready_facts c.registers called.ready in
    let within : T (in_range c.registers) = holds _ called.within in
    let few : quarters ≤ most_quarters = taken.in_day in
    let P : List ℕ → Type 0 = Cut c night quarters whole called.within taken in
    let along : Along P (log_events c.registers.bus night quarters) c =
    log_along c ready (facts c.registers within) night quarters taken.in_course (omega arith) P
    (cut_before c night quarters whole called.within taken) (cut_between c night quarters whole called.within taken) (cut_behind c night quarters whole called.within taken) in
    let found = cut_along P (log_events c.registers.bus night quarters) c along cut _ refl (is_true _ (events_kept (take cut (log_events c.registers.bus night quarters)) c within)) in
    record { either = found.0; others = found.1 }
