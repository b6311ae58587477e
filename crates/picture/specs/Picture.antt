-- "The picture": all its lines.
use Rattle.std.specs.Prelude.{ℕ, List}
use Rattle.controller.specs.declared.Controller.{Controller}
use Rattle.dots.specs.Dots.{line_of}
use Rattle.dots.specs.declared.phase.Phase.{Phase}
use Rattle.lent.specs.Lists.{parts}
use Rattle.size.specs.Size.{lines_of}

-- order line, row, digit
unfoldable pub picture_of : Controller → (digits : ℕ) (rom : List ℕ) → Phase → List ℕ
picture_of c digits rom phase = parts (lines_of c.registers.mode.lines) (line_of c digits rom phase)
