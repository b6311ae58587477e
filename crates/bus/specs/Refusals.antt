-- "Refusal numbers": the column "given exactly when" for a transfer and a wait, read off the state before it.
use Rattle.std.specs.Prelude.{ℕ, Bool, false, not, List, [], ◌∷◌}
use Rattle.condition.specs.First.{Rule, ◌when◌}
use Rattle.controller.specs.Part.{in_range}
use Rattle.controller.specs.declared.Controller.{Controller}
use Rattle.controller.specs.declared.registers.Registers.{Registers}
use Rattle.event.specs.declared.Kind.{Kind}
use Rattle.event.specs.declared.Kind.TheVariants.{InstructionWrite, DataWrite, StatusRead, DataRead}
use Rattle.halves.specs.Halves.{is_first, disagrees, completed}
use Rattle.instructions.specs.Instructions.{decode, row_of}
use Rattle.step.specs.Step.{refused_busy}

-- the byte that a transfer with this number completes
abbrev pub byte_of : Registers → ℕ → ℕ
byte_of r n = completed r.bus r.half n

-- display address that the line mode lacks
unfoldable pub lacks_address : Kind → Registers → ℕ → Bool
lacks_address InstructionWrite r n = (row_of (decode (byte_of r n)) r).lacks
lacks_address DataWrite r n = false
lacks_address StatusRead r n = false
lacks_address DataRead r n = false

-- each number but 0, and when a transfer is answered so: 16 first, then the lower number; 20 is the first half of a byte
abbrev pub transfer_rules : Controller → Kind → ℕ → List Rule
transfer_rules c k n =
    (16 when not (in_range c.registers))
    ∷ (1 when refused_busy c.registers k)
    ∷ (2 when disagrees c.registers.bus c.registers.half k)
    ∷ (20 when is_first c.registers.bus c.registers.half)
    ∷ (3 when lacks_address k c.registers n)
    ∷ []

abbrev pub wait_rules : Controller → List Rule
wait_rules c = (16 when not (in_range c.registers)) ∷ []
