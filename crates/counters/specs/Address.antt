-- "Memories and counters": the addresses of both memories, the cells of display memory, and one step.
use Rattle.std.specs.Prelude.{ℕ, ◌+◌, ◌-◌, ltb, leb, eqb, Bool, true, false, cond, ◌&&◌, ◌||◌}
use Rattle.counters.specs.Wrap.{next, previous, wrapped}
use Rattle.counters.specs.declared.LineMode.{LineMode}
use Rattle.counters.specs.declared.LineMode.TheVariants.{One, Two}
use Rattle.counters.specs.declared.address.Cell.{Cell}
use Rattle.counters.specs.declared.address.CharacterAddress.{CharacterAddress}
use Rattle.counters.specs.declared.address.DisplayAddress.{DisplayAddress}

abbrev pub display : ℕ → DisplayAddress
display n = record { 0 = n }

abbrev pub character : ℕ → CharacterAddress
character n = record { 0 = n }

abbrev pub cell : ℕ → Cell
cell n = record { 0 = n }

-- N = 0 is one line
abbrev pub line_mode : Bool → LineMode
line_mode false = One
line_mode true = Two

-- with one line the addresses 00 to 4F; with two lines 00 to 27, and 40 to 67
unfoldable pub has_display : LineMode → DisplayAddress → Bool
has_display One a = leb a.0 0x4F
has_display Two a = leb a.0 0x27 || (leb 0x40 a.0 && leb a.0 0x67)

-- with one line 00 to 4F are cells 0 to 79; with two lines 00 to 27 are cells 0 to 39, and 40 to 67 are cells 40 to 79
unfoldable pub cell_of : LineMode → DisplayAddress → Cell
cell_of One a = cell a.0
cell_of Two a = cell (cond (ltb a.0 0x40) a.0 (a.0 - 0x40 + 40))

-- the same rule read backwards
unfoldable pub address_of : LineMode → Cell → DisplayAddress
address_of One c = display c.0
address_of Two c = display (cond (ltb c.0 40) c.0 (c.0 - 40 + 0x40))

-- character memory: addresses 00 to 3F
unfoldable pub has_character : CharacterAddress → Bool
has_character a = leb a.0 0x3F

-- ---- one step, up where the argument says so
-- with one line 4F to 00; with two 27 to 40, and 67 to 00 (ours); a step down is the reverse (ours)
unfoldable pub step_display : LineMode → (up : Bool) → DisplayAddress → DisplayAddress
step_display One up a = display (wrapped up 0x4F a.0)
step_display Two true a = display (cond (eqb a.0 0x27) 0x40 (next 0x67 a.0))
step_display Two false a = display (cond (eqb a.0 0x40) 0x27 (previous 0x67 a.0))

-- 3F to 00 in character memory; a step down is the reverse (ours)
unfoldable pub step_character : (up : Bool) → CharacterAddress → CharacterAddress
step_character up a = character (wrapped up 0x3F a.0)

-- ---- past an end (request 8/12)
-- a step up passes one with one line from 4F to 00; with two from 27 to 40, and from 67 to 00
unfoldable pub ends_display : LineMode → (from to : ℕ) → Bool
ends_display One from to = eqb from 0x4F && eqb to 0x00
ends_display Two from to = (eqb from 0x27 && eqb to 0x40) || (eqb from 0x67 && eqb to 0x00)

-- in character memory from 3F to 00
unfoldable pub ends_character : (from to : ℕ) → Bool
ends_character from to = eqb from 0x3F && eqb to 0x00

-- "or any of these downwards"
abbrev pub either_way : (up : Bool) → (ends : ℕ → ℕ → Bool) → (from to : ℕ) → Bool
either_way true ends from to = ends from to
either_way false ends from to = ends to from

unfoldable pub passes_display : LineMode → (up : Bool) → DisplayAddress → Bool
passes_display mode up a = either_way up (ends_display mode) a.0 (step_display mode up a).0

unfoldable pub passes_character : (up : Bool) → CharacterAddress → Bool
passes_character up a = either_way up ends_character a.0 (step_character up a).0
