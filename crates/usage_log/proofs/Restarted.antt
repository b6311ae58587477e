-- The log reads the same after the standard restart, by the third statement, and a night that is written keeps its figure.
use Prim.Native.Nat.{ℕ, suc, ◌+◌, ◌*◌}
use borrow.Author.Tests.{eqb-true, eqb-false}
use lib.Dec.{T, T_not, eqb}
use lib.ListN.{get_or}
use mathlib.Core.Bool.{Bool, true, false, not}
use mathlib.Core.List.{List, [], ◌∷◌}
use mathlib.Core.Logic.{◌≢◌}
use mathlib.Core.Path.{◌≡◌, ◌∙◌, ap, refl, sym, subst, subst⁻¹}
use Rattle.bedside.proofs.Called.{call_taken, night_taken}
use Rattle.bedside.specs.Log.{figure_cell, mark_cell, is_written}
use Rattle.bedside.specs.Panel.{call_leaves}
use Rattle.bedside.specs.Refusals.{is_ready, call_answer}
use Rattle.bus.proofs.Busy.{waits_kept}
use Rattle.bus.proofs.Range.{range_kept, fresh_in_range}
use Rattle.bus.specs.Events.{told_by, waits}
use Rattle.bus.specs.Rules.{rules}
use Rattle.calls.specs.Events.{call_events}
use Rattle.calls.specs.declared.Call.{Call}
use Rattle.calls.specs.declared.Call.TheVariants.{Text, Log}
use Rattle.condition.proofs.Tests.{split, is_true, and_right}
use Rattle.condition.specs.First.{ExactlyFrom}
use Rattle.controller.specs.Part.{in_range, fresh_with}
use Rattle.controller.specs.Told.{Told}
use Rattle.controller.specs.declared.Controller.{Controller}
use Rattle.event.specs.declared.Event.TheVariants.{Transfer}
use Rattle.event.specs.declared.Kind.TheVariants.{InstructionWrite}
use Rattle.record.specs.Reading.{AllSmall}
use Rattle.restart.proofs.Third.{for_every_controller, restart_runs}
use Rattle.restart.specs.Compared.{Holds, fresh_like}
use Rattle.restart.specs.Writes.{halves, Write, told_of, Given, after, AtEach, patient, lower_lines, restart_of}
use Rattle.usage_log.specs.Theorems.{RestartKeepsLog, RestartedKeepsLog, WrittenStays}
use Rattle.usage_log.specs.Words.{SameLog, LooksWritten, Action, after_actions, ActionsAreBytes}
use Rattle.usage_log.proofs.Called.{of_call}
use Rattle.usage_log.proofs.Exactly.{call_given_exactly}
use Rattle.usage_log.proofs.Kept.{same_self, no_characters, text_keeps_log, logging_keeps_others}
use Rattle.usage_log.proofs.Looked.{looks_same, still_written, written_marked}

-- the same display memory, and both in range: the same log
same_memory : (c t : Controller) → T (in_range c.registers) → T (in_range t.registers) → t.display ≡ c.display → SameLog c t
same_memory c t u v e = λ night.
    let alike : (i : ℕ) → get_or t.display i 0 ≡ get_or c.display i 0 = λ i. ap (λ (d : List ℕ). get_or d i 0) e in
    looks_same c t night (is_true _ v ∙ sym (is_true _ u)) λ h. (alike (figure_cell night).0, alike (mark_cell night).0)

-- ---- after each write

each_same : (c₀ : Controller) → T (in_range c₀.registers) → (i : ℕ) (hs : List ℕ) (ws : List Write) (c : Controller) → T (in_range c.registers)
    → AtEach (λ j t. Holds c₀ t) i hs ws c → AtEach (λ j t. SameLog c₀ t.controller) i hs ws c
unfolding AtEach told_of told_by
each_same c₀ u i [] ws c t holds = tt
each_same c₀ u i (h ∷ hs) [] c t holds = tt
each_same c₀ u i (h ∷ hs) (w ∷ ws) c t holds =
    let behind : T (in_range (told_of h w c).controller.registers) =
    range_kept (Transfer InstructionWrite (h * 16 + w.lower)) (waits w.before c) (waits_kept w.before c t) in
    (same_memory c₀ (told_of h w c).controller u behind holds.0.display, each_same c₀ u (suc i) hs ws (told_of h w c).controller behind holds.1)

-- ---- at the end

last_same : (c₀ : Controller) (i : ℕ) (hs : List ℕ) (ws : List Write) (c : Controller) → SameLog c₀ c → Given hs ws c
    → AtEach (λ j t. SameLog c₀ t.controller) i hs ws c → SameLog c₀ (after hs ws c)
unfolding AtEach Given after
last_same c₀ i [] ws c same g each = same
last_same c₀ i (h ∷ hs) [] c same g each = absurd g
last_same c₀ i (h ∷ hs) (w ∷ ws) c same g each = last_same c₀ (suc i) hs ws (told_of h w c).controller each.0 g.2 each.1

-- a part just switched on is ready once it is restarted: by computation
fresh_ready : (d m : List ℕ) → T (is_ready (after halves (patient (lower_lines [])) (fresh_with d m)).registers)
unfolding rules after told_of patient is_ready
fresh_ready d m = tt

-- a part that is ready refuses no call with 17
ready_takes : (c : Controller) (call : Call) (count : ℕ) → T (is_ready c.registers) → call_answer c call count ≢ 17
unfolding ExactlyFrom
ready_takes c call count t e =
    T_not (is_ready c.registers) (and_right (not (not (in_range c.registers))) (not (is_ready c.registers)) ((call_given_exactly c call count).1.0.0 e)) t

pub restart_keeps_log : RestartKeepsLog
restart_keeps_log c t =
    let restarts = for_every_controller c t in
    let fresh : T (in_range (fresh_like c).registers) = fresh_in_range c.display c.character in
    let each : (writes : List Write) → Given halves writes c → AtEach (λ i t. SameLog c t.controller) 0 halves writes c =
    λ writes g. each_same c t 0 halves writes c t (restarts.memories writes g) in
    record {
      at_each = each;
      at_end = λ writes g. last_same c 0 halves writes c (same_self c) g (each writes g);
      ready = λ writes g call count.
          let equal = restarts.equal writes (patient (lower_lines [])) g (restart_runs (fresh_like c) [] fresh).given in
          subst⁻¹ (λ (x : Controller). call_answer x call count ≢ 17) equal
          (ready_takes (after halves (patient (lower_lines [])) (fresh_like c)) call count (fresh_ready c.display c.character));
    }

-- ---- the function that runs

restarted_same : (c : Controller) (lower : List ℕ) → SameLog c (restart_of c (lower_lines lower)).controller
unfolding restart_of
restarted_same c lower =
    split (λ (x : Told). SameLog c x.controller) (in_range c.registers)
    (λ t. (restart_keeps_log c t).at_end (patient (lower_lines lower)) (restart_runs c lower t).given)
    (λ t. same_self c)

pub restarted_keeps_log : RestartedKeepsLog
restarted_keeps_log c lower = record {
  log = restarted_same c lower;
  ready = λ t call count.
      let runs = restart_runs c lower t in
      subst⁻¹ (λ (x : Controller). call_answer x call count ≢ 17) runs.leaves ((restart_keeps_log c t).ready (patient (lower_lines lower)) runs.given call count);
}

-- ---- a night that is written

-- a log call of that very night is refused
logged_again : (c : Controller) (night quarters figure : ℕ) → LooksWritten c night quarters → LooksWritten (call_leaves c (Log night figure) []) night quarters
logged_again c night quarters figure w =
    of_call (λ (t : Controller). LooksWritten t night quarters) c (Log night figure) [] no_characters w λ e.
    absurd (T_not (is_written c night) (night_taken c night figure (call_taken c (Log night figure) 0 e).own).unwritten (written_marked c night quarters w))

log_keeps : (c : Controller) (night other quarters figure : ℕ) → LooksWritten c night quarters → LooksWritten (call_leaves c (Log other figure) []) night quarters
log_keeps c night other quarters figure w = by_night (eqb night other) refl
  where
    by_night : (b : Bool) → eqb night other ≡ b → LooksWritten (call_leaves c (Log other figure) []) night quarters
    by_night true e = subst (λ (n : ℕ). LooksWritten (call_leaves c (Log n figure) []) night quarters) (eqb-true night other e) (logged_again c night quarters figure w)
    by_night false e = still_written c _ night quarters ((logging_keeps_others c other figure).others night (eqb-false night other e)) w

call_keeps : (c : Controller) (call : Call) (characters : List ℕ) (night quarters : ℕ) → AllSmall characters → LooksWritten c night quarters → LooksWritten (call_leaves c call characters) night quarters
unfolding call_leaves call_answer call_events
call_keeps c (Text line) characters night quarters small w = still_written c _ night quarters ((text_keeps_log c line characters small).log night) w
call_keeps c (Log other figure) characters night quarters small w = log_keeps c night other quarters figure w

pub written_stays : WrittenStays
unfolding after_actions ActionsAreBytes
written_stays [] c night quarters small w = w
written_stays (Action.Called call characters ∷ actions) c night quarters small w =
    written_stays actions (call_leaves c call characters) night quarters small.1 (call_keeps c call characters night quarters small.0 w)
written_stays (Action.Restarted lower ∷ actions) c night quarters small w =
    written_stays actions (restart_of c (lower_lines lower)).controller night quarters small (still_written c _ night quarters (restarted_same c lower night) w)
