-- Laws of the lines of events that have been run: event by event, and as the bytes of events and answers give them.
use Prim.Native.Nat.{ℕ, ◌+◌, ◌*◌, ◌≤◌, ◌<◌}
use lib.Dec.{T, lit≤}
use lib.ListN.{length, get_or, length-append}
use mathlib.Core.Bool.{Bool, true, false, ◌&&◌, not}
use mathlib.Core.List.{List, [], ◌∷◌, ◌++◌}
use mathlib.Core.Option.{Option, none, some}
use mathlib.Core.Path.{◌≡◌, refl, ap}
use native.Mathlib.Omega.{arith}
use Rattle.bus.proofs.Numbers.{transfer_given_exactly, wait_given_exactly}
use Rattle.bus.specs.Events.{told_by, said_by}
use Rattle.bus.specs.Refusals.{transfer_rules, wait_rules}
use Rattle.condition.specs.First.{Rule, ExactlyFrom}
use Rattle.condition.specs.Flag.{flag_number}
use Rattle.controller.specs.declared.Controller.{Controller}
use Rattle.event.specs.declared.Event.{Event}
use Rattle.event.specs.declared.Event.TheVariants.{Transfer, Wait}
use Rattle.lent.proofs.Placed.{Awaits, awaits_none, awaits_more}
use Rattle.lent.specs.Put.{Puts}
use Rattle.record.proofs.Encoded.{event_means}
use Rattle.record.specs.Event.{event_of, word_of}
use Rattle.record.specs.Record.{before, front_events}
use Rattle.run.specs.Run.{answer_bytes}
use Rattle.table.specs.Promises.{lines_of, AllNarrow}
use Rattle.table.specs.Table.{line_of, event_lines}
use Rattle.table.proofs.Columns.{kind_short}

-- ---- an answer's number is at most two digits, and its wrap one

EachBelow : (most : ℕ) → List Rule → Type 0
EachBelow most [] = Unit {0}
EachBelow most (rule ∷ rules) = (rule.number < most) × EachBelow most rules

given_below : (most n done : ℕ) (rules : List Rule) → EachBelow most rules → done < most → ExactlyFrom true n rules done → n < most
unfolding ExactlyFrom EachBelow
given_below most n done [] each d e = omega (arith, e.1 tt)
given_below most n done (rule ∷ rules) each d e = go rule.condition e.0.1 e.1 (given_below most n done rules each.1 d)
  where
    go : (b : Bool) → (T (true && b) → n ≡ rule.number) → ExactlyFrom (true && not b) n rules done → (ExactlyFrom true n rules done → n < most) → n < most
    go true given rest below = omega (arith, given tt, each.0)
    go false given rest below = below rest

number_short : (event : Event) (c : Controller) → (told_by event c).said.number < 100
unfolding told_by EachBelow
number_short (Transfer kind value) c = given_below 100 _ 0 (transfer_rules c kind value) (lit≤ tt, (lit≤ tt, (lit≤ tt, (lit≤ tt, (lit≤ tt, tt))))) (lit≤ tt) (transfer_given_exactly c kind value)
number_short (Wait ticks) c = given_below 100 _ 0 (wait_rules c) (lit≤ tt, tt) (lit≤ tt) (wait_given_exactly c ticks)

flag_short : (b : Bool) → flag_number b < 10
flag_short true = lit≤ tt
flag_short false = lit≤ tt

-- ---- the lines of the events are those of their bytes beside the answers

-- the answers to the events lie at the front
module _ (behind : List ℕ) where
  abbrev answers_to : List Event → Controller → List ℕ
  answers_to events c = answer_bytes (said_by events c) ++ behind

  abbrev Answered : (events : List Event) → (body : List ℕ) → (number : ℕ) → Controller → Type 0
  Answered events body number c = (lines_of number body (answers_to events c) ≡ event_lines number events c) × AllNarrow body (answers_to events c)

  one_more : (kind high low : ℕ) (body : List ℕ) (found : Option Event) (events : List Event) → event_of kind (word_of high low) ≡ found
      → length (before found events) * 3 ≡ length body + 3 → (length events * 3 ≡ length body → (number : ℕ) (c : Controller) → Answered events body number c)
      → (number : ℕ) (c : Controller) → Answered (before found events) (kind ∷ high ∷ low ∷ body) number c
  unfolding lines_of event_lines AllNarrow answer_bytes said_by
  one_more kind high low body none events e h rest number c = absurd (omega arith)
  one_more kind high low body (some event) events e h rest number c =
      let raw = (event_means kind (word_of high low) event e).raw in
      let more = rest (omega arith) (number + 1) (told_by event c).controller in
      (rw (raw, more.0) refl, (rw raw at (kind_short event), number_short event c, flag_short (told_by event c).said.wrap, more.1))

  pub lines_by_bytes : (body : List ℕ) → length (front_events body) * 3 ≡ length body → (number : ℕ) (c : Controller) → Answered (front_events body) body number c
  unfolding front_events lines_of event_lines AllNarrow
  lines_by_bytes [] whole number c = (refl, tt)
  lines_by_bytes (kind ∷ []) whole number c = absurd (omega arith)
  lines_by_bytes (kind ∷ high ∷ []) whole number c = absurd (omega arith)
  lines_by_bytes (kind ∷ high ∷ low ∷ body) whole number c =
      one_more kind high low body (event_of kind (word_of high low)) (front_events body) refl (omega arith) (lines_by_bytes body) number c

-- ---- one line more

three_of : (three more : List ℕ) → length three ≡ 3 → three ++ more ≡ get_or three 0 0 ∷ get_or three 1 0 ∷ get_or three 2 0 ∷ more
three_of [] more e = absurd (omega arith)
three_of (a ∷ []) more e = absurd (omega arith)
three_of (a ∷ b ∷ []) more e = absurd (omega arith)
three_of (a ∷ b ∷ c ∷ []) more e = refl
three_of (a ∷ b ∷ c ∷ d ∷ three) more e = absurd (omega arith)

module _ (event answer events answers : List ℕ) (here there : List ℕ) (e : here ≡ event ++ events) (a : there ≡ answer ++ answers) (long : length event ≡ 3) (wide : length answer ≡ 3) where
  pub three_less : (length here ≡ length events + 3) × (length there ≡ length answers + 3)
  three_less = (omega (arith, ap length e, length-append event events), omega (arith, ap length a, length-append answer answers))

  pub narrow_on : AllNarrow here there → (get_or event 0 0 < 10) × (get_or answer 0 0 < 100) × (get_or answer 2 0 < 10) × AllNarrow events answers
  unfolding AllNarrow
  narrow_on n = rw (e, a, three_of event events long, three_of answer answers wide) at n

  abbrev line_here : ℕ → List ℕ
  line_here number = line_of number (get_or event 0 0) (word_of (get_or event 1 0) (get_or event 2 0)) (get_or answer 0 0) (get_or answer 1 0) (get_or answer 2 0)

  lines_on : (number : ℕ) → lines_of number here there ≡ line_here number ++ lines_of (number + 1) events answers
  unfolding lines_of
  lines_on number = rw (e, a, three_of event events long, three_of answer answers wide) refl

  pub lines_turn : (number next : ℕ) (now text : List ℕ) (place : ℕ) (out : List ℕ) → Awaits (lines_of number here there) next now text place out
      → next ≤ length now → (then : ℕ) (left : List ℕ) → Puts (line_here number) next now then left → Awaits (lines_of (number + 1) events answers) then left text place out
  lines_turn number next now text place out w =
      awaits_more text place out (line_here number) (lines_of (number + 1) events answers) next now (rw (lines_on number) at w)

-- no event is left
no_lines : (number : ℕ) (events answers : List ℕ) → length events < 3 → lines_of number events answers ≡ []
unfolding lines_of
no_lines number [] answers h = refl
no_lines number (kind ∷ []) answers h = refl
no_lines number (kind ∷ high ∷ []) answers h = refl
no_lines number (kind ∷ high ∷ low ∷ events) answers h = absurd (omega arith)

pub lines_end : (number : ℕ) (events answers : List ℕ) (next : ℕ) (now text : List ℕ) (place : ℕ) (out : List ℕ) → length events < 3
    → Awaits (lines_of number events answers) next now text place out → Puts text place out next now
lines_end number events answers next now text place out h w = awaits_none text place out next now (rw (no_lines number events answers h) at w)
