-- What a call leaves: where it ends, and which cells it keeps.
use Prim.Native.Nat.{ℕ, suc, ◌+◌, ◌≤◌, ◌<◌}
use borrow.Author.Tests.{eq-eqb}
use lib.Dec.{T, T_not, not_T, ltb, leb, eqb, eqb→eq, leb→le, le→leb, ltb→lt, lt→ltb, lit≤}
use lib.ListN.{length, set, get_or}
use lib.Seq.{get_or-set_other}
use mathlib.Core.Bool.{Bool, false, cond, not}
use mathlib.Core.List.{List, [], ◌∷◌}
use mathlib.Core.Logic.{◌⊎◌, ◌≢◌, inl, inr, ⊎_elim}
use mathlib.Core.Path.{◌≡◌, ◌∙◌, ap, refl, sym, subst⁻¹}
use native.Mathlib.Omega.{arith}
use Rattle.bedside.proofs.Called.{call_taken, sixteen_taken, night_taken}
use Rattle.bedside.specs.Log.{figure_cell, mark_cell}
use Rattle.bedside.specs.Panel.{call_leaves}
use Rattle.bedside.specs.Refusals.{most_quarters, own_rules, call_answer}
use Rattle.bus.specs.Events.{after_events}
use Rattle.calls.specs.Events.{call_events}
use Rattle.calls.specs.Nights.{last_night, mark}
use Rattle.calls.specs.declared.Call.{Call}
use Rattle.calls.specs.declared.Call.TheVariants.{Text, Log}
use Rattle.condition.proofs.Tests.{split, holds, and_left, and_right, and_both}
use Rattle.condition.specs.First.{first_of}
use Rattle.controller.proofs.Ranged.{InRange, facts, test}
use Rattle.controller.specs.Part.{placed, awaiting, with, in_range}
use Rattle.controller.specs.declared.Controller.{Controller}
use Rattle.counters.proofs.Laws.{home_exists}
use Rattle.counters.specs.Address.{display, cell_of}
use Rattle.counters.specs.declared.LineMode.TheVariants.{Two}
use Rattle.counters.specs.declared.counter.Counter.TheVariants.{Display}
use Rattle.halves.specs.declared.Half.{Half}
use Rattle.record.specs.Reading.{AllSmall}
use Rattle.usage_log.specs.Theorems.{CallEnds}
use Rattle.usage_log.specs.Words.{stored_from, first_cell, on_line, cells_after, end_of}
use Rattle.usage_log.proofs.Along.{Comes}
use Rattle.usage_log.proofs.Ends.{text_comes, log_comes}
use Rattle.usage_log.proofs.Given.{Ready, ready_facts, standing}

-- ---- where it ends

-- the writes of night 23 pass an end, and no others
abbrev pub last_of_lines : Call → Bool
last_of_lines (Text line) = false
last_of_lines (Log night quarters) = eqb night 23

call_comes : (c : Controller) (call : Call) (characters : List ℕ) → AllSmall characters → Ready c.registers → InRange c.registers → first_of (own_rules c call (length characters)) 0 ≡ 0
    → Comes (call_events c.registers.bus call characters) c (standing c (Display (display 0x00)) (cells_after call characters c.display) 10) (last_of_lines call)
unfolding call_events cells_after
call_comes c (Text line) characters small ready ranged own = text_comes c ready ranged line characters (sixteen_taken line (length characters) own) small
call_comes c (Log night quarters) characters small ready ranged own =
    let taken = night_taken c night quarters own in
    let few : quarters ≤ most_quarters = taken.in_day in
    log_comes c ready ranged night quarters taken.in_course (omega arith)

module _ (c : Controller) (call : Call) (characters : List ℕ) (e : call_answer c call (length characters) ≡ 0) where
  taken_ready : Ready c.registers
  taken_ready = ready_facts c.registers (call_taken c call (length characters) e).ready

  pub taken_comes : AllSmall characters
      → Comes (call_events c.registers.bus call characters) c (standing c (Display (display 0x00)) (cells_after call characters c.display) 10) (last_of_lines call)
  taken_comes small =
      let taken = call_taken c call (length characters) e in
      call_comes c call characters small taken_ready (facts c.registers (holds _ taken.within)) taken.own

pub call_ends : CallEnds
unfolding call_leaves end_of
call_ends c call characters small e =
    let comes = taken_comes c call characters e small in
    record {
      none_refused = comes.none_refused;
      end =
          ap (λ (b : Bool). cond b (after_events (call_events c.registers.bus call characters) c) c) (eq-eqb _ _ e)
          ∙ comes.leaves
          ∙ ap (λ (h : Half). with (cells_after call characters c.display) c.character (awaiting (placed c.registers (Display (display 0x00)) c.registers.shift) h 10)) (sym (taken_ready c call characters e).nothing_waits);
    }

-- a fact of the controller as it was, and of where the call ends, is one of what the call leaves
pub of_call : (P : Controller → Type 0) (c : Controller) (call : Call) (characters : List ℕ) → AllSmall characters → P c
    → (call_answer c call (length characters) ≡ 0 → P (end_of c call characters)) → P (call_leaves c call characters)
unfolding call_leaves
of_call P c call characters small refused done =
    split P (eqb (call_answer c call (length characters)) 0)
    (λ t.
    let e : call_answer c call (length characters) ≡ 0 = eqb→eq _ 0 t in
    let taken = ap (λ (b : Bool). cond b (after_events (call_events c.registers.bus call characters) c) c) (eq-eqb _ _ e) in
    subst⁻¹ P (sym taken ∙ (call_ends c call characters small e).end) (done e))
    (λ t. refused)

pub end_in_range : (c : Controller) (call : Call) (characters : List ℕ) → T (in_range c.registers) → T (in_range (end_of c call characters).registers)
unfolding end_of
end_in_range c call characters t =
    let f : InRange c.registers = facts c.registers t in
    test (end_of c call characters).registers (record { counter = home_exists c.registers.mode.lines; shift = f.shift; half = f.half; busy = lit≤ tt })

-- ---- which cells a text keeps

stored_others : (bytes : List ℕ) (cell : ℕ) (d : List ℕ) (i : ℕ) → ((j : ℕ) → j < length bytes → i ≢ cell + j) → get_or (stored_from cell bytes d) i 0 ≡ get_or d i 0
unfolding stored_from
stored_others [] cell d i other = refl
stored_others (n ∷ ns) cell d i other =
    stored_others ns (cell + 1) (set d cell n) i (λ j h e. other (suc j) (omega arith) (omega (arith, e)))
    ∙ get_or-set_other d cell i n 0 (λ e. other 0 (omega arith) (omega (arith, e)))

off_line : (line i j : ℕ) → T (not (on_line line i)) → j < 16 → i ≢ first_cell line + j
off_line line i j t h e =
    let from : first_cell line ≤ i = omega (arith, e) in
    let below : i < first_cell line + 16 = omega (arith, e) in
    T_not (on_line line i) t (and_both (leb (first_cell line) i) (ltb i (first_cell line + 16)) (le→leb (first_cell line) i from) (lt→ltb i (first_cell line + 16) below))

pub text_keeps_cell : (line : ℕ) (characters d : List ℕ) (i : ℕ) → length characters ≡ 16 → T (not (on_line line i)) → get_or (cells_after (Text line) characters d) i 0 ≡ get_or d i 0
unfolding cells_after
text_keeps_cell line characters d i e t = stored_others characters (first_cell line) d i (λ j h. off_line line i j t (omega (arith, e)))

-- no cell of the log is on a line
line_cells : (line : ℕ) → (first_cell line ≡ 0) ⊎ (first_cell line ≡ 40)
unfolding cell_of
line_cells line = split (λ (a : ℕ). ((cell_of Two (display a)).0 ≡ 0) ⊎ ((cell_of Two (display a)).0 ≡ 40)) (eqb line 0) (λ t. inl refl) (λ t. inr refl)

pub log_off_line : (line night i : ℕ) → night ≤ last_night → (i ≡ 16 + night) ⊎ (i ≡ 56 + night) → T (not (on_line line i))
log_off_line line night i h at =
    not_T (on_line line i) (λ t.
    let from : first_cell line ≤ i = leb→le (first_cell line) i (and_left (leb (first_cell line) i) (ltb i (first_cell line + 16)) t) in
    let below : i < first_cell line + 16 = ltb→lt i (first_cell line + 16) (and_right (leb (first_cell line) i) (ltb i (first_cell line + 16)) t) in
    ⊎_elim
    (λ first. ⊎_elim (λ a. omega (arith, first, a)) (λ a. omega (arith, first, a)) at)
    (λ second. ⊎_elim (λ a. omega (arith, second, a)) (λ a. omega (arith, second, a)) at)
    (line_cells line))

-- ---- which cells a night logged keeps

pub log_keeps_cell : (night quarters : ℕ) (characters d : List ℕ) (i : ℕ) → i ≢ (figure_cell night).0 → i ≢ (mark_cell night).0 → get_or (cells_after (Log night quarters) characters d) i 0 ≡ get_or d i 0
unfolding cells_after
log_keeps_cell night quarters characters d i m n =
    get_or-set_other (set d (figure_cell night).0 quarters) (mark_cell night).0 i mark 0 n ∙ get_or-set_other d (figure_cell night).0 i quarters 0 m
