-- "Refusal numbers": one transfer and one wait, with the refusals in their order: 16 first, then the lower number.
use Rattle.std.specs.Prelude.{ℕ, cond}
use Rattle.controller.specs.Answers.{saying, wrapping, said_of}
use Rattle.controller.specs.Part.{with, waited, in_range}
use Rattle.controller.specs.Told.{Told, unchanged}
use Rattle.controller.specs.declared.Controller.{Controller}
use Rattle.event.specs.declared.Kind.{Kind}
use Rattle.step.specs.Step.{stepped}
use Rattle.bus.specs.declared.Outcome.{Outcome}

-- what is told of an outcome of the code
abbrev pub told : Outcome → Told
told o = record { said = wrapping o.wrap (said_of o.answer); controller = o.controller }

-- 16: the controller handed in is not in range; the whole state is left
unfoldable pub transfer_of : Controller → Kind → ℕ → Told
transfer_of c k n = cond (in_range c.registers) (stepped c k n) (unchanged 16 c)

-- a wait is answered 0
abbrev pub waited_told : Controller → ℕ → Told
waited_told c n = record { said = saying 0 0; controller = with c.display c.character (waited c.registers n) }

unfoldable pub wait_of : Controller → ℕ → Told
wait_of c n = cond (in_range c.registers) (waited_told c n) (unchanged 16 c)
