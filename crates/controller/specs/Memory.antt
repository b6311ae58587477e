-- "Memories and counters": the byte that an address names, and what a transfer does to the two memories.
use Rattle.std.specs.Prelude.{ℕ, replicate, set, get_or, List}
use Rattle.counters.specs.Address.{cell_of}
use Rattle.counters.specs.declared.LineMode.{LineMode}
use Rattle.counters.specs.declared.address.Cell.{Cell}
use Rattle.counters.specs.declared.address.CharacterAddress.{CharacterAddress}
use Rattle.counters.specs.declared.counter.Counter.{Counter}
use Rattle.counters.specs.declared.counter.Counter.TheVariants.{Display, Character}

-- the four things that a transfer can do to the two memories: none, clear, one display cell, one character byte
pub data Change : Type 0 where
  Nothing : Change
  Clear : Change
  OneCell : Cell → (byte : ℕ) → Change
  OneCharacter : CharacterAddress → (byte : ℕ) → Change

-- the addressed byte: display memory is addressed by its cell, character memory as the bus names it
unfoldable pub byte_at : LineMode → Counter → (display character : List ℕ) → ℕ
byte_at lines (Display a) d m = get_or d (cell_of lines a).0 0
byte_at lines (Character a) d m = get_or m a.0 0

-- a data write stores the byte in the one addressed cell
unfoldable pub store_at : LineMode → Counter → (byte : ℕ) → Change
store_at lines (Display a) n = Change.OneCell (cell_of lines a) n
store_at lines (Character a) n = Change.OneCharacter a n

-- clear: all display cells 20 hex
unfoldable pub display_after : Change → List ℕ → List ℕ
display_after Change.Nothing d = d
display_after Change.Clear d = replicate 80 0x20
display_after (Change.OneCell c n) d = set d c.0 n
display_after (Change.OneCharacter a n) d = d

unfoldable pub character_after : Change → List ℕ → List ℕ
character_after Change.Nothing m = m
character_after Change.Clear m = m
character_after (Change.OneCell c n) m = m
character_after (Change.OneCharacter a n) m = set m a.0 n
