-- What a panel call leaves: the controller that its events leave, or the controller as it was; and whether the counter passed an end.
use Rattle.std.specs.Prelude.{ℕ, eqb, length, Bool, false, cond, ◌||◌, List, [], ◌∷◌, ◌≡◌}
use Rattle.bus.specs.Events.{after_events, said_by}
use Rattle.calls.specs.Events.{call_events}
use Rattle.calls.specs.declared.Call.{Call}
use Rattle.controller.specs.Answers.{Said}
use Rattle.controller.specs.declared.Controller.{Controller}
use Rattle.refusal.specs.Refusals.{number_of}
use Rattle.bedside.specs.Refusals.{call_answer}
use Rattle.bedside.specs.declared.Outcome.{Outcome}

-- a call that is done leaves what its events leave, by the line count; a refused one changes nothing
unfoldable pub call_leaves : Controller → Call → (characters : List ℕ) → Controller
call_leaves c call characters =
    cond (eqb (call_answer c call (length characters)) 0) (after_events (call_events c.registers.bus call characters) c) c

-- ---- past an end (request 8/12)
-- one of these answers says yes
unfoldable pub any_wrap : List Said → Bool
any_wrap [] = false
any_wrap (said ∷ more) = said.wrap || any_wrap more

-- "yes if one of its data writes did": its instructions set addresses, and say no. A refused call says no
unfoldable pub call_wraps : Controller → Call → (characters : List ℕ) → Bool
call_wraps c call characters =
    cond (eqb (call_answer c call (length characters)) 0) (any_wrap (said_by (call_events c.registers.bus call characters) c)) false

-- what a call promises: its number, the controller, and whether the counter passed an end
pub record Calling (c : Controller) (call : Call) (characters : List ℕ) (o : Outcome) : Type 0 where
  pub number : number_of o.answer ≡ call_answer c call (length characters)
  pub controller : o.controller ≡ call_leaves c call characters
  pub wrap : o.wrap ≡ call_wraps c call characters
