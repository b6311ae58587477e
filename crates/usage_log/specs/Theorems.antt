-- What is proved of the bedside panel and its usage log, for the person who ordered it; Words.antt has the words.
use Rattle.std.specs.Prelude.{⊤, ℕ, T, eqb, length, get_or, take, false, Option, not, ◌&&◌, List, [], ◌⊎◌, Result, ◌≢◌, ◌≡◌}
use Rattle.bedside.specs.Log.{figure_cell, mark_cell, look_up_rules, look_up_answer, LookingUp}
use Rattle.bedside.specs.Panel.{call_leaves, call_wraps, Calling}
use Rattle.bedside.specs.Refusals.{call_rules, call_answer}
use Rattle.bedside.specs.declared.Outcome.{Outcome}
use Rattle.bus.specs.Events.{after_events, said_by}
use Rattle.bus.specs.Written.{Whole}
use Rattle.calls.specs.Events.{log_events, call_events}
use Rattle.calls.specs.declared.Call.{Call}
use Rattle.calls.specs.declared.Call.TheVariants.{Text, Log}
use Rattle.condition.specs.First.{Exactly}
use Rattle.controller.specs.Part.{in_range}
use Rattle.controller.specs.declared.Controller.{Controller}
use Rattle.record.specs.Reading.{AllSmall}
use Rattle.refusal.specs.Refusals.{number_of}
use Rattle.refusal.specs.declared.Refusal.{Refusal}
use Rattle.restart.specs.Writes.{halves, Write, Given, after, AtEach, lower_lines, restart_of}
use Rattle.usage_log.specs.Words.{LooksSame, SameLog, LooksWritten, on_line, Action, after_actions, ActionsAreBytes, NoneRefused, end_of}

-- ---- text never changes the log

-- for every controller, line and text of bytes, refused or not
pub record TextKeeps (c : Controller) (line : ℕ) (characters : List ℕ) : Type 0 where
  -- every night looks up the same before and after
  pub log : SameLog c (call_leaves c (Text line) characters)
  -- of display memory only the sixteen cells of its line can differ, of character memory none
  pub cells : (i : ℕ) → T (not (on_line line i)) → get_or (call_leaves c (Text line) characters).display i 0 ≡ get_or c.display i 0
  pub character : (call_leaves c (Text line) characters).character ≡ c.character

abbrev pub TextKeepsLog : Type 0
TextKeepsLog = (c : Controller) (line : ℕ) (characters : List ℕ) → AllSmall characters → TextKeeps c line characters

-- ---- logging changes two cells only

-- for every controller, night and figure, refused or not
pub record LoggingKeeps (c : Controller) (night quarters : ℕ) : Type 0 where
  pub two_cells : (i : ℕ) → i ≢ (figure_cell night).0 → i ≢ (mark_cell night).0 → get_or (call_leaves c (Log night quarters) []).display i 0 ≡ get_or c.display i 0
  pub character : (call_leaves c (Log night quarters) []).character ≡ c.character
  -- every other night is as before
  pub others : (other : ℕ) → other ≢ night → LooksSame c (call_leaves c (Log night quarters) []) other

abbrev pub LoggingKeepsOthers : Type 0
LoggingKeepsOthers = (c : Controller) (night quarters : ℕ) → LoggingKeeps c night quarters

-- what was logged is read
abbrev pub LoggedIsRead : Type 0
LoggedIsRead =
    (c : Controller) (night quarters : ℕ) → Whole c → call_answer c (Log night quarters) 0 ≡ 0
    → LooksWritten (call_leaves c (Log night quarters) []) night quarters

-- ---- the log reads the same after the standard restart: the third statement

-- all lower lines, and all waits with which the restart can be given
pub record RestartKeeps (c : Controller) : Type 0 where
  -- also after each of its twelve writes
  pub at_each : (writes : List Write) → Given halves writes c → AtEach (λ i t. SameLog c t.controller) 0 halves writes c
  pub at_end : (writes : List Write) → Given halves writes c → SameLog c (after halves writes c)
  -- and no panel call is then refused with 17, so the firmware can always go on
  pub ready : (writes : List Write) → Given halves writes c → (call : Call) (count : ℕ) → call_answer (after halves writes c) call count ≢ 17

abbrev pub RestartKeepsLog : Type 0
RestartKeepsLog = (c : Controller) → T (in_range c.registers) → RestartKeeps c

-- and so it is for the function `restart`, of every controller
pub record RestartedKeeps (c : Controller) (lower : List ℕ) : Type 0 where
  pub log : SameLog c (restart_of c (lower_lines lower)).controller
  pub ready : T (in_range c.registers) → (call : Call) (count : ℕ) → call_answer (restart_of c (lower_lines lower)).controller call count ≢ 17

abbrev pub RestartedKeepsLog : Type 0
RestartedKeepsLog = (c : Controller) (lower : List ℕ) → RestartedKeeps c lower

-- ---- a night that is written keeps its figure

-- whatever texts, nights logged and restarts by `restart` follow, in any order
abbrev pub WrittenStays : Type 0
WrittenStays =
    (actions : List Action) (c : Controller) (night quarters : ℕ) → ActionsAreBytes actions → LooksWritten c night quarters → LooksWritten (after_actions actions c) night quarters

-- ---- where a call ends

pub record Ends (c : Controller) (call : Call) (characters : List ℕ) : Type 0 where
  -- no transfer of it is refused
  pub none_refused : NoneRefused (said_by (call_events c.registers.bus call characters) c)
  -- the cells, address 00 of display memory, 10 ticks busy, everything else as before
  pub end : call_leaves c call characters ≡ end_of c call characters

abbrev pub CallEnds : Type 0
CallEnds = (c : Controller) (call : Call) (characters : List ℕ) → AllSmall characters → call_answer c call (length characters) ≡ 0 → Ends c call characters

-- ---- past an end (request 8/12)

-- a text never says yes
abbrev pub TextNeverWraps : Type 0
TextNeverWraps = (c : Controller) (line : ℕ) (characters : List ℕ) → AllSmall characters → call_wraps c (Text line) characters ≡ false

-- logging says yes exactly for night 23, where it is done: the cells of that night stand at 27 and 67 hex, the ends of both lines, and no text runs off there
abbrev pub LoggingWrapsExactly : Type 0
LoggingWrapsExactly = (c : Controller) (night quarters : ℕ) → call_wraps c (Log night quarters) [] ≡ (eqb (call_answer c (Log night quarters) 0) 0 && eqb night 23)

-- ---- a log call cut after any of its transfers, or of its waits

-- the controller that so many of its events leave
abbrev pub cut_after : (cut : ℕ) → Controller → (night quarters : ℕ) → Controller
cut_after cut c night quarters = after_events (take cut (log_events c.registers.bus night quarters)) c

-- leaves the night reading as before or as logged, and every other night as before
pub record CutLeaves (cut : ℕ) (c : Controller) (night quarters : ℕ) : Type 0 where
  pub either : LooksSame c (cut_after cut c night quarters) night ⊎ LooksWritten (cut_after cut c night quarters) night quarters
  pub others : (other : ℕ) → other ≢ night → LooksSame c (cut_after cut c night quarters) other

abbrev pub CutLeavesOldOrNew : Type 0
CutLeavesOldOrNew = (cut : ℕ) (c : Controller) (night quarters : ℕ) → Whole c → call_answer c (Log night quarters) 0 ≡ 0 → CutLeaves cut c night quarters

-- ---- each refusal exactly when

abbrev pub CallGivenExactly : Type 0
CallGivenExactly = (c : Controller) (call : Call) (count : ℕ) → Exactly (call_answer c call count) (call_rules c call count) 0

abbrev pub LookUpGivenExactly : Type 0
LookUpGivenExactly = (c : Controller) (night : ℕ) → Exactly (look_up_answer c night) (look_up_rules c night) 0

-- ---- any two outcomes that a promise allows are equal

abbrev pub AnswerSettled : Type 0
AnswerSettled = (c : Controller) (call : Call) (count : ℕ) (r r' : Result ⊤ Refusal) → number_of r ≡ call_answer c call count → number_of r' ≡ call_answer c call count → r ≡ r'

abbrev pub CallSettled : Type 0
CallSettled = (c : Controller) (call : Call) (characters : List ℕ) (o o' : Outcome) → Calling c call characters o → Calling c call characters o' → o ≡ o'

abbrev pub LookUpSettled : Type 0
LookUpSettled = (c : Controller) (night : ℕ) (r r' : Result (Option ℕ) Refusal) → LookingUp c night r → LookingUp c night r' → r ≡ r'
