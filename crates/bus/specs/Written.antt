-- "One that ignores writes by the addressed cell": a data write is in the addressed cell, and a data read of that address returns it.
use Rattle.std.specs.Prelude.{ℕ, ◌*◌, length, List, ◌≡◌}
use Rattle.controller.specs.Answers.{Said, saying, wrapping}
use Rattle.controller.specs.Memory.{byte_at}
use Rattle.controller.specs.Part.{placed, passes_end, with}
use Rattle.controller.specs.declared.Controller.{Controller}
use Rattle.counters.specs.declared.counter.Counter.{Counter}
use Rattle.event.specs.declared.Event.{Event}
use Rattle.event.specs.declared.Kind.TheVariants.{DataWrite, DataRead}
use Rattle.halves.specs.Halves.{upper, lower}
use Rattle.halves.specs.declared.LineCount.{LineCount}
use Rattle.bus.specs.Events.{reached, waits}
use Rattle.bus.specs.Refusals.{byte_of}
use Rattle.bus.specs.Transfer.{transfer_of}

-- 80 display cells and 64 character bytes
pub record Whole (c : Controller) : Type 0 where
  pub display : length c.display ≡ 80
  pub character : length c.character ≡ 64

-- every part that is reached has them
abbrev pub ReachedWhole : Type 0
ReachedWhole = (past : List Event) → Whole (reached past)

-- the byte that an address names, in the line mode of c
abbrev pub byte_in : Controller → Counter → ℕ
byte_in c k = byte_at c.registers.mode.lines k c.display c.character

-- the part with its counter at an address
abbrev pub pointed : Counter → Controller → Controller
pointed k c = with c.display c.character (placed c.registers k c.registers.shift)

-- a data read from where the counter stands returns v, and passes an end as a write there does
abbrev pub read_back : Controller → (v : ℕ) → Said
read_back c v = wrapping (passes_end c.registers.entry.up c.registers) (saying 0 v)

-- what was written by a data write with the number n to c, of which t is left; both lengths of the bus
pub record Wrote (c : Controller) (n : ℕ) (t : Controller) : Type 0 where
  -- the addressed cell, or character byte, holds the completed byte
  pub stored : byte_in t c.registers.counter ≡ byte_of c.registers n
  -- with its counter at that address again, and free after any waits, a data read returns it on eight lines,
  pub read_on_eight : (ns : List ℕ) (m : ℕ) → (waits ns (pointed c.registers.counter t)).registers.busy ≡ 0 → c.registers.bus ≡ LineCount.Eight
      → (transfer_of (waits ns (pointed c.registers.counter t)) DataRead m).said ≡ read_back c (byte_of c.registers n)
  -- and on four lines in two halves
  pub read_on_four : (ns : List ℕ) (m m' : ℕ) → (waits ns (pointed c.registers.counter t)).registers.busy ≡ 0 → c.registers.bus ≡ LineCount.Four
      → ((transfer_of (waits ns (pointed c.registers.counter t)) DataRead m).said ≡ saying 20 (upper (byte_of c.registers n) * 16))
      × ((transfer_of (transfer_of (waits ns (pointed c.registers.counter t)) DataRead m).controller DataRead m').said ≡ read_back c (lower (byte_of c.registers n) * 16))

abbrev pub WriteIsRead : Type 0
WriteIsRead = (c : Controller) (n : ℕ) → Whole c → (transfer_of c DataWrite n).said.number ≡ 0 → Wrote c n (transfer_of c DataWrite n).controller
