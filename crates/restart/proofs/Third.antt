-- The third statement, proved.
use Prim.Native.Nat.{ℕ, zero, suc, ◌+◌, ◌*◌, ◌≤◌}
use lib.Dec.{T}
use lib.ListN.{length}
use mathlib.Core.List.{List, [], ◌∷◌}
use mathlib.Core.Path.{◌≡◌, ◌∙◌, ap, refl, sym}
use native.Mathlib.Omega.{arith}
use Rattle.bus.proofs.Busy.{waits_kept, waits_lower}
use Rattle.bus.proofs.Range.{range_kept, fresh_in_range, reached_in_range}
use Rattle.bus.specs.Events.{told_by, after_events, reached, waits}
use Rattle.bus.specs.Events.{said_by}
use Rattle.condition.proofs.Tests.{is_true}
use Rattle.controller.proofs.Ranged.{facts}
use Rattle.controller.specs.Part.{with, longest, in_range, fresh_with}
use Rattle.controller.specs.declared.Controller.{Controller}
use Rattle.event.specs.declared.Event.TheVariants.{Transfer}
use Rattle.event.specs.declared.Kind.TheVariants.{InstructionWrite}
use Rattle.halves.specs.Halves.{lower}
use Rattle.picture.specs.Answers.{answer_for, buffer_for}
use Rattle.restart.specs.Compared.{fresh_like}
use Rattle.restart.specs.Statement.{ThirdStatement, ForEveryController, RestartRuns}
use Rattle.restart.specs.Writes.{halves, Write, told_of, Given, after, patiently, patient, FourLines, lower_from, lower_lines, restart_of}
use Rattle.restart.proofs.Leads.{Came, leads_to}
use Rattle.restart.proofs.Restarting.{restarted, Restarted, Allowed, restart_leads}

-- the restart can always be given
possible : (hs lower : List ℕ) (c : Controller) → T (in_range c.registers) → FourLines hs lower → Given hs (patient lower) c
unfolding Given patient FourLines told_of told_by
possible [] [] c t g = tt
possible [] (l ∷ ls) c t g = absurd g
possible (h ∷ hs) [] c t g = absurd g
possible (h ∷ hs) (l ∷ ls) c t g =
    let w : Write = patiently l in
    let b : c.registers.busy ≤ longest = (facts c.registers t).busy in
    let e : (waits (longest ∷ []) c).registers.busy ≡ 0 = waits_lower (longest ∷ []) c t ∙ omega arith in
    let t' : T (in_range (told_of h w c).controller.registers) =
    range_kept (Transfer InstructionWrite (h * 16 + l)) (waits (longest ∷ []) c) (waits_kept (longest ∷ []) c t) in
    (g.0, e, possible hs ls (told_of h w c).controller t' g.1)

-- what is known of every restart that is given to a controller in range
came : (c : Controller) → T (in_range c.registers) → (writes : List Write) → Given halves writes c → Came Allowed Restarted c 0 halves writes c
came c t writes g =
    leads_to Allowed Restarted c 0 halves writes c t refl refl
    (restart_leads c.registers (facts c.registers t).half)
    g

-- of the old controller only the two memories are left
pub left : Controller → Controller
left c = with c.display c.character restarted

pub leaves : (c : Controller) → T (in_range c.registers) → (writes : List Write) → Given halves writes c → after halves writes c ≡ left c
unfolding left Restarted
leaves c t writes g =
    let k = came c t writes g in
    (λ i. with (k.display i) (k.character i) (k.registers i))

pub for_every_controller : ForEveryController
unfolding Allowed left fresh_with
for_every_controller c t =
    let fresh : T (in_range (fresh_like c).registers) = fresh_in_range c.display c.character in
    let equal : (writes others : List Write) → Given halves writes c → Given halves others (fresh_like c) → after halves writes c ≡ after halves others (fresh_like c) =
    λ writes others g g'. leaves c t writes g ∙ sym (leaves (fresh_like c) fresh others g') in
    record {
      possible = λ lower f. possible halves lower c t f;
      possible_fresh = λ lower f. possible halves lower (fresh_like c) fresh f;
      memories = λ writes g. (came c t writes g).memories;
      answered = λ writes g. (came c t writes g).answers;
      equal = equal;
      told_alike = λ writes others g g' later. ap (said_by later) (equal writes others g g');
      shown_alike = λ writes others g g' later digits rom phase out. record {
        answer = ap (λ (x : Controller). answer_for (after_events later x) digits (length rom) (length out)) (equal writes others g g');
        buffer = ap (λ (x : Controller). buffer_for (after_events later x) digits rom phase out) (equal writes others g g');
      };
    }

pub third_statement : ThirdStatement
third_statement past = for_every_controller (reached past) (reached_in_range past)

-- ---- the function that runs
low_lines : (i n : ℕ) (hs lower : List ℕ) → length hs ≡ n → FourLines hs (lower_from i n lower)
unfolding FourLines
low_lines i zero [] lower e = tt
low_lines i zero (h ∷ hs) lower e = absurd (omega (arith, e))
low_lines i (suc n) [] lower e = absurd (omega (arith, e))
low_lines i (suc n) (h ∷ hs) lower e = (omega arith, low_lines (i + 1) n hs lower (omega (arith, e)))

pub restart_runs : RestartRuns
unfolding restart_of
restart_runs c lower t = record {
  given = possible halves (lower_lines lower) c t (low_lines 0 12 halves lower refl);
  leaves = rw (is_true (in_range c.registers) t);
}
