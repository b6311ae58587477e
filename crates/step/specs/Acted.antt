-- For the contracts of `act`, `upper_read` and `stepped_to` alone, no rule: a whole byte given to a controller in range, and the registers behind data.
use Rattle.std.specs.Prelude.{ℕ}
use Rattle.controller.specs.Part.{placed, awaiting, counter_stepped, passes_end}
use Rattle.controller.specs.Told.{Told, addressed, carried}
use Rattle.controller.specs.declared.Controller.{Controller}
use Rattle.controller.specs.declared.answer.Answer.TheVariants.{Done}
use Rattle.controller.specs.declared.effect.Effect.{Effect}
use Rattle.controller.specs.declared.registers.Registers.{Registers}
use Rattle.counters.specs.declared.shift.Shift.{Shift}
use Rattle.event.specs.declared.Kind.{Kind}
use Rattle.halves.specs.Halves.{answered}
use Rattle.step.specs.Data.{read_of, act}

-- what a transfer of this kind reads
abbrev pub read_from : Controller → Kind → ℕ
read_from c k = read_of k c.registers (addressed c)

abbrev pub acted : Controller → Kind → (byte : ℕ) → Told
acted c k n = carried c (act k c.registers n (answered c.registers.bus (read_from c k)))

-- the value read; the counter stepped in the set direction, and whether it passed an end; this shift; 10 ticks
abbrev pub stepped_to : Shift → (read : ℕ) → Registers → Effect
stepped_to s v r =
    record { registers = awaiting (placed r (counter_stepped r.entry.up r) s) r.half 10; answer = Done v; wrap = passes_end r.entry.up r }
