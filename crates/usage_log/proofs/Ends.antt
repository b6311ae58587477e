-- Where a text and a night logged end, and whether a write of theirs passes an end.
use Prim.Native.Nat.{ℕ, suc, ◌+◌, ◌≤◌, ◌<◌}
use borrow.Author.Tests.{eq-eqb}
use lib.Dec.{T, ltb, leb, eqb, ltb→lt, eqb→eq, lit≤}
use lib.ListN.{length, set}
use mathlib.Core.Bool.{Bool, true, false, not, ◌&&◌, ◌||◌, or-false, or_self_left, beq}
use mathlib.Core.List.{List, [], ◌∷◌, ◌++◌}
use mathlib.Core.Logic.{⊎_elim}
use mathlib.Core.Path.{◌≡◌, ◌∙◌, ap, ap₂, refl, subst, subst⁻¹}
use native.Mathlib.Omega.{arith}
use Rattle.bedside.proofs.Nights.{figure_exists, mark_exists}
use Rattle.bedside.specs.Panel.{any_wrap}
use Rattle.bus.specs.Events.{after_events, said_by}
use Rattle.calls.specs.Events.{address_events, data_events, home_address, line_address, text_events, cell_events, log_events}
use Rattle.calls.specs.Nights.{last_night, figure_address, mark_address, mark}
use Rattle.condition.proofs.Tests.{split, and_left, and_right, or_cases, ◌⇒◌, implies, every, each, same}
use Rattle.controller.proofs.Ranged.{InRange}
use Rattle.controller.specs.Part.{longest}
use Rattle.controller.specs.declared.Controller.{Controller}
use Rattle.counters.proofs.Laws.{step_exists, passes_exactly}
use Rattle.counters.specs.Address.{display, has_display, cell_of, step_display, ends_display, passes_display}
use Rattle.counters.specs.Counter.{has_counter, step_of, passes_of, number_on}
use Rattle.counters.specs.Wrap.{next}
use Rattle.counters.specs.declared.LineMode.TheVariants.{Two}
use Rattle.counters.specs.declared.address.DisplayAddress.{DisplayAddress}
use Rattle.counters.specs.declared.counter.Counter.{Counter}
use Rattle.counters.specs.declared.counter.Counter.TheVariants.{Display}
use Rattle.halves.specs.declared.LineCount.{LineCount}
use Rattle.record.specs.Reading.{AllSmall}
use Rattle.usage_log.specs.Words.{stored_from, NoneRefused}
use Rattle.usage_log.proofs.Along.{Along, along_append, Comes, comes_then, Leads, along_then, leads_then}
use Rattle.usage_log.proofs.Given.{Ready, standing, exists, address_leads, data_leads, standing_first}

-- ---- a row of addresses on one line

-- an address that is not the last of its line
abbrev in_row : ℕ → Bool
in_row a = ltb a 0x27 || (leb 0x40 a && ltb a 0x67)

in_row_below : (a : ℕ) → T (in_row a) → a < 0x67
in_row_below a t =
    ⊎_elim
    (λ (u : T (ltb a 0x27)). omega (arith, ltb→lt a 0x27 u))
    (λ (u : T (leb 0x40 a && ltb a 0x67)). ltb→lt a 0x67 (and_right (leb 0x40 a) (ltb a 0x67) u))
    (or_cases (ltb a 0x27) (leb 0x40 a && ltb a 0x67) t)

-- it exists, one step leads to the address behind it, and the cells stand behind each other too: one computed test
abbrev exists_test : ℕ → Bool
exists_test a = has_display Two (display a)

abbrev step_test : ℕ → Bool
step_test a = eqb (step_display Two true (display a)).0 (a + 1)

abbrev cell_test : ℕ → Bool
cell_test a = eqb (cell_of Two (display (a + 1))).0 ((cell_of Two (display a)).0 + 1)

row_test : (a : ℕ) → T (in_row a) → T (exists_test a && (step_test a && cell_test a))
unfolding has_display step_display cell_of next
row_test a t =
    implies (in_row a) (exists_test a && (step_test a && cell_test a))
    (each (λ (n : ℕ). in_row n ⇒ (exists_test n && (step_test n && cell_test n))) 0x67 tt a (in_row_below a t)) t

-- so many addresses from a on, none of which is the last of its line
Row : ℕ → ℕ → Type 0
Row a count = (i : ℕ) → i < count → T (in_row (a + i))

row_first : (a count : ℕ) → Row a (suc count) → T (in_row a)
unfolding Row
row_first a count row = let same : a + 0 ≡ a = omega arith in subst (λ (n : ℕ). T (in_row n)) same (row 0 (omega arith))

row_next : (a count : ℕ) → Row a (suc count) → Row (a + 1) count
unfolding Row
row_next a count row = λ i h. let same : a + (i + 1) ≡ a + 1 + i = omega arith in subst (λ (n : ℕ). T (in_row n)) same (row (i + 1) (omega arith))

-- ---- characters, one behind the other

module _ (c : Controller) (ready : Ready c.registers) (ranged : InRange c.registers) where
  abbrev bus : LineCount
  bus = c.registers.bus

  row_comes : (characters : List ℕ) (a : ℕ) (d : List ℕ) → Row a (length characters) → AllSmall characters
      → Comes (data_events bus characters) (standing c (Display (display a)) d 10)
      (standing c (Display (display (a + length characters))) (stored_from (cell_of Two (display a)).0 characters d) 10) false
  unfolding data_events stored_from after_events said_by NoneRefused any_wrap has_counter step_of passes_of number_on
  row_comes [] a d row small =
      let same : a ≡ a + 0 = omega arith in
      record { leaves = ap (λ (n : ℕ). standing c (Display (display n)) d 10) same; none_refused = tt; wraps = refl }
  row_comes (n ∷ ns) a d row small =
      let t = row_test a (row_first a (length ns) row) in
      let rest = and_right (exists_test a) (step_test a && cell_test a) t in
      let steps : (step_display Two true (display a)).0 ≡ a + 1 = eqb→eq _ _ (and_left (step_test a) (cell_test a) rest) in
      let cells : (cell_of Two (display (a + 1))).0 ≡ (cell_of Two (display a)).0 + 1 = eqb→eq _ _ (and_right (step_test a) (cell_test a) rest) in
      let there = and_left (exists_test a) (step_test a && cell_test a) t in
      let inside : passes_display Two true (display a) ≡ false = passes_exactly true Two (Display (display a)) there ∙ ap not (eq-eqb _ _ steps) in
      let first = (data_leads c ready ranged (display a) n d 10 there (small 0) (lit≤ tt)).comes in
      let d' : List ℕ = set d (cell_of Two (display a)).0 n in
      let others = row_comes ns (a + 1) d' (row_next a (length ns) row) (λ i. small (suc i)) in
      let end : a + 1 + length ns ≡ a + suc (length ns) = omega arith in
      comes_then (rw inside at first) (rw (steps, ← cells, ← end) others)

  home_leads : (k : Counter) (d : List ℕ) → T (has_counter c.registers.mode.lines k) → Leads (address_events bus home_address) (standing c k d 10) (standing c (Display home_address) d 10) false
  unfolding has_display
  home_leads k d u = address_leads c ready ranged home_address k d 10 tt u (lit≤ tt)

  -- ---- a text

  line_starts : (line : ℕ) → T (has_display Two (line_address line)) × Row (line_address line).0 16 × T (has_display Two (display ((line_address line).0 + 16)))
  unfolding has_display Row
  line_starts line =
      split (λ (a : ℕ). T (has_display Two (display a)) × Row a 16 × T (has_display Two (display (a + 16)))) (eqb line 0)
      (λ t. (tt, each (λ (i : ℕ). in_row (0x00 + i)) 16 tt, tt))
      (λ t. (tt, each (λ (i : ℕ). in_row (0x40 + i)) 16 tt, tt))

  pub text_comes : (line : ℕ) (characters : List ℕ) → length characters ≡ 16 → AllSmall characters
      → Comes (text_events bus line characters) c (standing c (Display home_address) (stored_from (cell_of Two (line_address line)).0 characters c.display) 10) false
  unfolding text_events has_counter
  text_comes line characters e small =
      let starts = line_starts line in
      let d : List ℕ = stored_from (cell_of Two (line_address line)).0 characters c.display in
      let row : Row (line_address line).0 (length characters) = subst⁻¹ (Row (line_address line).0) e starts.1 in
      let behind : T (has_display Two (display ((line_address line).0 + length characters))) = subst⁻¹ (λ (n : ℕ). T (has_display Two (display ((line_address line).0 + n)))) e starts.2 in
      subst (λ (x : Controller). Comes (text_events bus line characters) x (standing c (Display home_address) d 10) false) (standing_first c ready ranged)
      (comes_then (address_leads c ready ranged (line_address line) c.registers.counter c.display c.registers.busy starts.0 ranged.counter ranged.busy).comes
      (comes_then (row_comes characters (line_address line).0 c.display row small)
      (home_leads (Display (display ((line_address line).0 + length characters))) d (exists c ready ranged _ behind)).comes))

  -- ---- a night logged

  cell_leads : (a : DisplayAddress) (n : ℕ) (k : Counter) (d : List ℕ) (t : ℕ) → T (has_display Two a) → n < 256 → T (has_counter c.registers.mode.lines k) → t ≤ longest
      → Leads (cell_events bus a n) (standing c k d t) (standing c (Display (step_display Two true a)) (set d (cell_of Two a).0 n) 10) (passes_display Two true a)
  cell_leads a n k d t u small v h =
      leads_then (address_leads c ready ranged a k d t u v h) (data_leads c ready ranged a n d 10 u small (lit≤ tt)) refl

  step_there : (a : DisplayAddress) → T (has_display Two a) → T (has_counter c.registers.mode.lines (Display (step_display Two true a)))
  unfolding has_counter step_of
  step_there a u = exists c ready ranged (step_display Two true a) (step_exists true Two (Display a) u)

  module _ (night quarters : ℕ) (in_course : night ≤ last_night) (small : quarters < 256) where
    abbrev figured : List ℕ
    figured = set c.display (cell_of Two (figure_address night)).0 quarters

    abbrev marked : List ℕ
    marked = set figured (cell_of Two (mark_address night)).0 mark

    figure_leads : Leads (cell_events bus (figure_address night) quarters) c (standing c (Display (step_display Two true (figure_address night))) figured 10) (passes_display Two true (figure_address night))
    figure_leads =
        subst (λ (x : Controller). Leads (cell_events bus (figure_address night) quarters) x (standing c (Display (step_display Two true (figure_address night))) figured 10) (passes_display Two true (figure_address night)))
        (standing_first c ready ranged)
        (cell_leads (figure_address night) quarters c.registers.counter c.display c.registers.busy (figure_exists night in_course) small ranged.counter ranged.busy)

    mark_leads : Leads (cell_events bus (mark_address night) mark) (standing c (Display (step_display Two true (figure_address night))) figured 10)
        (standing c (Display (step_display Two true (mark_address night))) marked 10) (passes_display Two true (mark_address night))
    mark_leads =
        cell_leads (mark_address night) mark (Display (step_display Two true (figure_address night))) figured 10 (mark_exists night in_course) (lit≤ tt)
        (step_there (figure_address night) (figure_exists night in_course)) (lit≤ tt)

    ends_leads : Leads (address_events bus home_address) (standing c (Display (step_display Two true (mark_address night))) marked 10) (standing c (Display home_address) marked 10) false
    ends_leads = home_leads (Display (step_display Two true (mark_address night))) marked (step_there (mark_address night) (mark_exists night in_course))

    -- a write to the last cell of a line passes an end: of the nights' cells those of night 23 are the last
    last_passes : (address : ℕ → DisplayAddress) → T (every (λ (k : ℕ). beq (passes_display Two true (address k)) (eqb k 23)) 24) → passes_display Two true (address night) ≡ eqb night 23
    last_passes address t = same _ _ (each (λ (k : ℕ). beq (passes_display Two true (address k)) (eqb k 23)) 24 t night (omega arith))

    pub log_comes : Comes (log_events bus night quarters) c (standing c (Display home_address) marked 10) (eqb night 23)
    unfolding log_events passes_display ends_display step_display next
    log_comes =
        subst (Comes (log_events bus night quarters) c (standing c (Display home_address) marked 10))
        (ap₂ (λ (a b : Bool). a || (b || false)) (last_passes figure_address tt) (last_passes mark_address tt) ∙ or_self_left (eqb night 23) false ∙ or-false (eqb night 23))
        (comes_then figure_leads.comes (comes_then mark_leads.comes ends_leads.comes))

    -- the figure before the mark: of display memory there are three states, one behind the other
    pub log_along : (P : List ℕ → Type 0) → P c.display → P figured → P marked → Along P (log_events bus night quarters) c
    unfolding log_events
    log_along P before between behind =
        along_append P (cell_events bus (figure_address night) quarters) _ c (figure_leads.along P before between)
        (subst⁻¹ (Along P (cell_events bus (mark_address night) mark ++ address_events bus home_address)) figure_leads.comes.leaves (along_then mark_leads ends_leads P between behind behind))
