-- What a caller is told of a transfer or a wait, and the controller that it gets back.
use Rattle.std.specs.Prelude.{ℕ, List}
use Rattle.controller.specs.Answers.{Said, wrapping, refused, said_of, answered_as}
use Rattle.controller.specs.Memory.{byte_at, display_after, character_after}
use Rattle.controller.specs.Part.{with}
use Rattle.controller.specs.Result.{Result}
use Rattle.controller.specs.declared.Controller.{Controller}
use Rattle.controller.specs.declared.effect.Effect.{Effect}

pub record Told : Type 0 where
  pub said : Said
  pub controller : Controller

-- what is told of an effect of the code that left these two memories
abbrev pub told_with : (display character : List ℕ) → Effect → Told
told_with d m e = record { said = wrapping e.wrap (said_of (answered_as e.answer)); controller = with d m e.registers }

-- the byte that the counter addresses
abbrev pub addressed : Controller → ℕ
addressed c = byte_at c.registers.mode.lines c.registers.counter c.display c.character

-- the controller with what a transfer came to
abbrev pub carried : Controller → Result → Told
carried c s = record {
  said = s.said;
  controller = with (display_after s.change c.display) (character_after s.change c.character) s.registers;
}

-- a refusal that leaves the whole state
abbrev pub unchanged : ℕ → Controller → Told
unchanged n c = record { said = refused n; controller = c }
