-- What a transfer comes to: what is told, the registers, and the change of memory.
use Rattle.std.specs.Prelude.{ℕ, Bool}
use Rattle.halves.specs.declared.Half.{Half}
use Rattle.controller.specs.Answers.{Said, saying, wrapping, refused, said_of, answered_as}
use Rattle.controller.specs.Memory.{Change}
use Rattle.controller.specs.Part.{awaiting}
use Rattle.controller.specs.declared.effect.Effect.{Effect}
use Rattle.controller.specs.declared.registers.Registers.{Registers}

pub record Result : Type 0 where
  pub said : Said
  pub registers : Registers
  pub change : Change

-- an effect of the code, beside a change of memory
abbrev pub result_of : Effect → Change → Result
result_of e m = record { said = wrapping e.wrap (said_of (answered_as e.answer)); registers = e.registers; change = m }

-- done with the value v, saying w of the wrap: no half waits, and the part is busy for t ticks
abbrev pub done : (w : Bool) (v t : ℕ) → Registers → Change → Result
done w v t r m = record { said = wrapping w (saying 0 v); registers = awaiting r Half.Nothing t; change = m }

-- refused with 2 or 3: the state, but the half is forgotten; no ticks
abbrev pub forgotten : ℕ → Registers → Result
forgotten n r = record { said = refused n; registers = awaiting r Half.Nothing r.busy; change = Change.Nothing }

-- refused with 1: the whole state is left
abbrev pub leaving : ℕ → Registers → Result
leaving n r = record { said = refused n; registers = r; change = Change.Nothing }
