-- The words of the theorems about the usage log: what a look-up finds, which cells a call writes, where a call ends.
use Rattle.std.specs.Prelude.{ℕ, ◌+◌, T, ltb, leb, eqb, set, Bool, Some, ◌&&◌, ◌||◌, List, [], ◌∷◌, ◌≡◌}
use Rattle.bedside.specs.Log.{figure_cell, mark_cell, look_up_answer, look_up_figure}
use Rattle.bedside.specs.Panel.{call_leaves}
use Rattle.bedside.specs.Refusals.{text_length}
use Rattle.calls.specs.Events.{line_address}
use Rattle.calls.specs.Nights.{mark}
use Rattle.calls.specs.declared.Call.{Call}
use Rattle.calls.specs.declared.Call.TheVariants.{Text, Log}
use Rattle.controller.specs.Answers.{Said}
use Rattle.controller.specs.Part.{placed, awaiting, with}
use Rattle.controller.specs.declared.Controller.{Controller}
use Rattle.counters.specs.Address.{display, cell_of}
use Rattle.counters.specs.declared.LineMode.TheVariants.{Two}
use Rattle.counters.specs.declared.counter.Counter.TheVariants.{Display}
use Rattle.record.specs.Reading.{AllSmall}
use Rattle.restart.specs.Writes.{lower_lines, restart_of}

-- the night is told the same of both: number, and figure or none
pub record LooksSame (before after : Controller) (night : ℕ) : Type 0 where
  pub number : look_up_answer after night ≡ look_up_answer before night
  pub figure : look_up_figure after night ≡ look_up_figure before night

-- every night
abbrev pub SameLog : (before after : Controller) → Type 0
SameLog before after = (night : ℕ) → LooksSame before after night

-- the night is written, with this figure
pub record LooksWritten (c : Controller) (night quarters : ℕ) : Type 0 where
  pub number : look_up_answer c night ≡ 0
  pub figure : look_up_figure c night ≡ Some quarters

-- bytes, from a cell on, each in the cell behind the one before
unfoldable pub stored_from : (cell : ℕ) (bytes display : List ℕ) → List ℕ
stored_from cell [] display = display
stored_from cell (n ∷ ns) display = stored_from (cell + 1) ns (set display cell n)

-- the first cell of a line
abbrev pub first_cell : (line : ℕ) → ℕ
first_cell line = (cell_of Two (line_address line)).0

-- the sixteen cells of a line
abbrev pub on_line : (line i : ℕ) → Bool
on_line line i = leb (first_cell line) i && ltb i (first_cell line + text_length)

-- display memory after a call that is done
unfoldable pub cells_after : Call → (characters display : List ℕ) → List ℕ
cells_after (Text line) characters display = stored_from (first_cell line) characters display
cells_after (Log night quarters) characters display = set (set display (figure_cell night).0 quarters) (mark_cell night).0 mark

-- where it ends: those cells, address 00 of display memory, 10 ticks busy, everything else as before
unfoldable pub end_of : Controller → Call → (characters : List ℕ) → Controller
end_of c call characters =
    with (cells_after call characters c.display) c.character
    (awaiting (placed c.registers (Display (display 0x00)) c.registers.shift) c.registers.half 10)

-- none of the answers is a refusal: 0, or 20 for a first half
unfoldable pub NoneRefused : List Said → Type 0
NoneRefused [] = Unit {0}
NoneRefused (said ∷ rest) = T (eqb said.number 0 || eqb said.number 20) × NoneRefused rest

-- ---- what a masker does with its panel: texts, nights logged, restarts

pub data Action : Type 0 where
  Called : Call → (characters : List ℕ) → Action
  Restarted : (lower : List ℕ) → Action

unfoldable pub after_actions : List Action → Controller → Controller
after_actions [] c = c
after_actions (Called call characters ∷ actions) c = after_actions actions (call_leaves c call characters)
after_actions (Restarted lower ∷ actions) c = after_actions actions (restart_of c (lower_lines lower)).controller

-- the characters of every text are bytes
unfoldable pub ActionsAreBytes : List Action → Type 0
ActionsAreBytes [] = Unit {0}
ActionsAreBytes (Called call characters ∷ actions) = AllSmall characters × ActionsAreBytes actions
ActionsAreBytes (Restarted lower ∷ actions) = ActionsAreBytes actions
