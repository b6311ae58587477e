-- "Halves" and refusals 1 to 3: what a transfer of registers in range comes to.
use Rattle.std.specs.Prelude.{ℕ, ◌+◌, ◌*◌, eqb, Bool, cond, ◌&&◌, not}
use Rattle.controller.specs.Answers.{saying}
use Rattle.controller.specs.Memory.{Change}
use Rattle.controller.specs.Part.{awaiting}
use Rattle.controller.specs.Result.{Result, forgotten, leaving}
use Rattle.controller.specs.Told.{Told, addressed, carried}
use Rattle.controller.specs.declared.Controller.{Controller}
use Rattle.controller.specs.declared.registers.Registers.{Registers}
use Rattle.event.specs.Kind.{is_status, alike}
use Rattle.event.specs.declared.Kind.{Kind}
use Rattle.halves.specs.Halves.{upper, held_by, answered}
use Rattle.halves.specs.declared.Half.{Half}
use Rattle.halves.specs.declared.LineCount.{LineCount}
use Rattle.halves.specs.declared.LineCount.TheVariants.{Eight, Four}
use Rattle.step.specs.Data.{read_of, act}

-- the first half waits and costs no ticks; a read answers the upper half of its value, in the upper four bits with zeros below
unfoldable pub first_half : Kind → Registers → (n v : ℕ) → Result
first_half k r n v = record { said = saying 20 (upper v * 16); registers = awaiting r (Half.Waiting k (held_by k n)) r.busy; change = Change.Nothing }

-- the second completes the byte, which acts as it would on eight lines; another kind completes nothing (refusal 2)
unfoldable pub second_half : (w : Kind) (u : ℕ) → Kind → Registers → (n v : ℕ) → Result
second_half w u k r n v = cond (alike w k) (act k r (u * 16 + upper n) (answered Four v)) (forgotten 2 r)

unfoldable pub on_four : Half → Kind → Registers → (n v : ℕ) → Result
on_four Half.Nothing k r n v = first_half k r n v
on_four (Half.Waiting w u) k r n v = second_half w u k r n v

unfoldable pub on_bus : LineCount → Kind → Registers → (n v : ℕ) → Result
on_bus Eight k r n v = act k r n v
on_bus Four k r n v = on_four r.half k r n v

-- 1: busy, and the transfer is no status read; it leaves the whole state
unfoldable pub refused_busy : Registers → Kind → Bool
refused_busy r k = not (eqb r.busy 0) && not (is_status k)

-- a transfer of registers in range, whose counter addresses the byte b
unfoldable pub result_for : Registers → Kind → (n b : ℕ) → Result
result_for r k n b = cond (refused_busy r k) (leaving 1 r) (on_bus r.bus k r n (read_of k r b))

-- the same given to a controller in range
abbrev pub stepped : Controller → Kind → (n : ℕ) → Told
stepped c k n = carried c (result_for c.registers k n (addressed c))
