-- The words of the statement, in the request's order: equal but for the line count; without a function set; the same, as two like halves; answers that agree.
use Rattle.std.specs.Prelude.{ℕ, ◌+◌, ◌*◌, ◌/◌, ◌<◌, T, leb, Bool, false, ◌&&◌, not, ◌↔◌, ◌≢◌, ◌≡◌}
use Rattle.bus.specs.Transfer.{transfer_of}
use Rattle.controller.specs.Answers.{Said, saying, wrapping, refused}
use Rattle.controller.specs.Part.{arranged, awaiting, with}
use Rattle.controller.specs.Told.{Told}
use Rattle.controller.specs.declared.Controller.{Controller}
use Rattle.controller.specs.declared.registers.Registers.{Registers}
use Rattle.event.specs.Kind.{is_read}
use Rattle.event.specs.declared.Kind.{Kind}
use Rattle.event.specs.declared.Kind.TheVariants.{InstructionWrite, DataWrite, StatusRead, DataRead}
use Rattle.halves.specs.Halves.{upper, lower}
use Rattle.halves.specs.declared.Half.{Half}
use Rattle.halves.specs.declared.LineCount.{LineCount}
use Rattle.halves.specs.declared.LineCount.TheVariants.{Eight, Four}

-- ---- equal but for the line count
-- registers, and a part, on so many lines with no half waiting; all else as it is
abbrev pub on_lines : LineCount → Registers → Registers
on_lines b r = awaiting (arranged r b r.mode) Half.Nothing r.busy

abbrev pub wired : LineCount → Controller → Controller
wired b c = with c.display c.character (on_lines b c.registers)

-- one part on eight lines and one on four, no half waiting in either, all else equal, both memories and the busy time included
pub record EqualButForLines (eight four : Controller) : Type 0 where
  -- on eight lines, and no half waits
  pub eight_lines : eight ≡ wired Eight eight
  -- the same part on four lines, and no half waits
  pub four_lines : four ≡ wired Four eight

-- ---- without a function set (20-3F)
-- an instruction write of 20 to 3F; a data write of such a byte is none
abbrev pub is_function_set : Kind → ℕ → Bool
is_function_set InstructionWrite n = leb 0x20 n && leb n 0x3F
is_function_set DataWrite n = false
is_function_set StatusRead n = false
is_function_set DataRead n = false

-- ---- the same, as two like halves
-- the byte n: its upper half, then its lower half on the upper four lines, whatever the lower four lines hold in either
pub record HalvesOf (n first second : ℕ) : Type 0 where
  pub byte : n < 256
  pub upper_half : upper first ≡ upper n
  pub lower_half : upper second ≡ lower n

-- so a write of n; a read is the same read twice, whatever number is handed in
abbrev pub LikeHalves : Kind → (n first second : ℕ) → Type 0
LikeHalves k n first second = T (not (is_read k)) → HalvesOf n first second

-- what the second half is told, given behind the first
abbrev pub second_of : Controller → Kind → (first second : ℕ) → Told
second_of c k first second = transfer_of (transfer_of c k first).controller k second

-- ---- refusals agree, bytes read agree once the halves are joined; the second half says what the one transfer says of the wrap, the first half no (request 8/12)
-- what eight lines are answered, and beside it the two halves on four: these are all cases
pub data Agree : (eight first second : Said) → Type 0 where
  -- 0 with the value v, saying w of the wrap: 20 with v's upper half and no, then 0 with v's lower half and w, each half in the upper four bits
  Done : (v : ℕ) (w : Bool) → Agree (wrapping w (saying 0 v)) (saying 20 (upper v * 16)) (wrapping w (saying 0 (lower v * 16)))
  Busy : Agree (refused 1) (refused 1) (refused 1)
  NoSuchAddress : Agree (refused 3) (saying 20 0) (refused 3)
  NotInRange : Agree (refused 16) (refused 16) (refused 16)

-- each of them exactly when; a value read is a byte, and is had back from its halves
pub record AgreeExactly (eight first second : Said) : Type 0 where
  pub done : (v : ℕ) (w : Bool) → v < 256 → eight.value < 256
      → (eight ≡ wrapping w (saying 0 v)) ↔ ((first ≡ saying 20 (upper v * 16)) × (second ≡ wrapping w (saying 0 (lower v * 16))))
  pub joined : eight.value < 256 → first.value + second.value / 16 ≡ eight.value
  pub busy : (eight.number ≡ 1) ↔ ((first.number ≡ 1) × (second.number ≡ 1))
  pub no_such_address : (eight.number ≡ 3) ↔ ((first.number ≡ 20) × (second.number ≡ 3))
  pub not_in_range : (eight.number ≡ 16) ↔ ((first.number ≡ 16) × (second.number ≡ 16))
  -- 2 never comes
  pub never_2 : (eight.number ≢ 2) × (first.number ≢ 2) × (second.number ≢ 2)
