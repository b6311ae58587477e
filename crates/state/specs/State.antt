-- A controller as 159 bytes: the number of each field, and the bytes that a controller is put as.
use Rattle.std.specs.Prelude.{ℕ, ◌+◌, ◌/◌, ◌%◌, List, [], ◌∷◌, ◌++◌}
use Rattle.condition.specs.Flag.{flag_number}
use Rattle.controller.specs.declared.Controller.{Controller}
use Rattle.controller.specs.declared.registers.Registers.{Registers}
use Rattle.counters.specs.Counter.{number_on}
use Rattle.counters.specs.declared.LineMode.{LineMode}
use Rattle.counters.specs.declared.LineMode.TheVariants.{One, Two}
use Rattle.counters.specs.declared.counter.Counter.{Counter}
use Rattle.counters.specs.declared.counter.Counter.TheVariants.{Display, Character}
use Rattle.event.specs.Kind.{kind_number}
use Rattle.halves.specs.Halves.{upper_of}
use Rattle.halves.specs.declared.Half.{Half}
use Rattle.halves.specs.declared.Half.TheVariants.{Nothing, Waiting}
use Rattle.halves.specs.declared.LineCount.{LineCount}
use Rattle.halves.specs.declared.LineCount.TheVariants.{Eight, Four}

-- exactly 159 bytes
abbrev pub state_bytes : ℕ
state_bytes = 159

-- ---- the number of each field

-- the counter's memory: 0 display, 1 character
abbrev pub memory_number : Counter → ℕ
memory_number (Display a) = 0
memory_number (Character a) = 1

-- eight lines
abbrev pub eight_number : LineCount → ℕ
eight_number Four = 0
eight_number Eight = 1

-- N
abbrev pub lines_number : LineMode → ℕ
lines_number One = 0
lines_number Two = 1

-- the half: 0 none, 1 instruction write, 2 data write, 3 status read, 4 data read
abbrev pub half_number : Half → ℕ
half_number Nothing = 0
half_number (Waiting k u) = kind_number k + 1

-- ---- the bytes

-- 144 the counter's memory, 145 address, 146 shift, 147 eight lines, 148 N, 149 F, 150 direction up, 151 shift on write,
-- 152 display, 153 cursor, 154 blink, 155 half, 156 its number, 157-158 busy, high byte first
unfoldable pub registers_put : Registers → List ℕ
registers_put r =
    memory_number r.counter
    ∷ number_on r.counter
    ∷ r.shift.0
    ∷ eight_number r.bus
    ∷ lines_number r.mode.lines
    ∷ flag_number r.mode.tall
    ∷ flag_number r.entry.up
    ∷ flag_number r.entry.shifts
    ∷ flag_number r.lights.display
    ∷ flag_number r.lights.cursor
    ∷ flag_number r.lights.blink
    ∷ half_number r.half
    ∷ upper_of r.half
    ∷ r.busy / 256
    ∷ r.busy % 256
    ∷ []

-- 0-79 display memory, 80-143 character memory, 144-158 the registers
unfoldable pub put_of : Controller → List ℕ
put_of c = c.display ++ (c.character ++ registers_put c.registers)
