-- "Proved examples": P1 to P11 as one list of cases, each from a part just switched on, busy waited out unless said.
use Rattle.std.specs.Prelude.{ℕ, get_or, replicate, true, List, [], ◌∷◌, ◌++◌, map, ◌≡◌}
use Rattle.bus.specs.Events.{told_by, reached}
use Rattle.controller.specs.Answers.{Said, saying, wrapping}
use Rattle.controller.specs.Part.{longest}
use Rattle.controller.specs.declared.Controller.{Controller}
use Rattle.counters.specs.declared.counter.Counter.{Counter}
use Rattle.counters.specs.declared.counter.Counter.TheVariants.{Display, Character}
use Rattle.dots.specs.Digit.{shown_on}
use Rattle.event.specs.declared.Event.{Event}
use Rattle.event.specs.declared.Event.TheVariants.{Transfer, Wait}
use Rattle.event.specs.declared.Kind.TheVariants.{InstructionWrite, DataWrite, StatusRead}

-- what a case looks at afterwards
pub data Look : Type 0 where
  DisplayAddress : Look
  CharacterAddress : Look
  Cell : ℕ → Look
  AllCells : Look
  AllCharacters : Look
  Shift : Look
  BusyTime : Look
  DigitZero : Look

abbrev display_address : Counter → List ℕ
display_address (Display a) = a.0 ∷ []
display_address (Character a) = []

abbrev character_address : Counter → List ℕ
character_address (Display a) = []
character_address (Character a) = a.0 ∷ []

unfoldable pub seen : Look → Controller → List ℕ
seen DisplayAddress c = display_address c.registers.counter
seen CharacterAddress c = character_address c.registers.counter
seen (Cell n) c = get_or c.display n 0 ∷ []
seen AllCells c = c.display
seen AllCharacters c = c.character
seen Shift c = c.registers.shift.0 ∷ []
seen BusyTime c = c.registers.busy ∷ []
-- the cells that digit 0 shows on the first and the second line
seen DigitZero c =
    (shown_on c.registers.mode.lines c.registers.shift 0 0).0 ∷ (shown_on c.registers.mode.lines c.registers.shift 1 0).0 ∷ []

unfoldable pub seen_all : List Look → Controller → List ℕ
seen_all [] c = []
seen_all (l ∷ ls) c = seen l c ++ seen_all ls c

-- what is told, and what is seen afterwards
pub record Seen : Type 0 where
  pub said : Said
  pub sees : List ℕ

-- what came before, the event, where to look, and what is wanted
pub record Case : Type 0 where
  pub before : List Event
  pub event : Event
  pub looks : List Look
  pub wanted : Seen

unfoldable pub found : Case → Seen
found p = record {
  said = (told_by p.event (reached p.before)).said;
  sees = seen_all p.looks (told_by p.event (reached p.before)).controller;
}

-- bytes written with RS = 0, the busy time waited out before each and behind the last
unfoldable pub calm : List ℕ → List Event
calm [] = Wait longest ∷ []
calm (b ∷ bs) = Wait longest ∷ Transfer InstructionWrite b ∷ calm bs

abbrev case : List Event → Event → List Look → ℕ → ℕ → List ℕ → Case
case before event looks number value sees =
    record { before = before; event = event; looks = looks; wanted = record { said = saying number value; sees = sees } }

-- the same, where the counter passes an end (request 8/12)
abbrev past_end : Case → Case
past_end p = record { before = p.before; event = p.event; looks = p.looks; wanted = record { said = wrapping true p.wanted.said; sees = p.wanted.sees } }

unfoldable pub examples : List Case
examples =
    -- P1 switched on, status reads 128
    case [] (Transfer StatusRead 0) [] 0 128 []
    -- P2 two lines: A7 then data 41 fills cell 39, address 40
    ∷ past_end (case (calm (0x38 ∷ 0xA7 ∷ [])) (Transfer DataWrite 0x41) (Cell 39 ∷ DisplayAddress ∷ []) 0 0 (0x41 ∷ 0x40 ∷ []))
    -- P3 A8: accepted with one line, refusal 3 with two
    ∷ case (calm []) (Transfer InstructionWrite 0xA8) (DisplayAddress ∷ []) 0 0 (0x28 ∷ [])
    ∷ case (calm (0x38 ∷ [])) (Transfer InstructionWrite 0xA8) (DisplayAddress ∷ []) 3 0 (0x00 ∷ [])
    -- P4 one line: CF accepted, D0 refusal 3
    ∷ case (calm []) (Transfer InstructionWrite 0xCF) (DisplayAddress ∷ []) 0 0 (0x4F ∷ [])
    ∷ case (calm []) (Transfer InstructionWrite 0xD0) (DisplayAddress ∷ []) 3 0 (0x00 ∷ [])
    -- P5 two lines: E7 accepted, E8 refusal 3
    ∷ case (calm (0x38 ∷ [])) (Transfer InstructionWrite 0xE7) (DisplayAddress ∷ []) 0 0 (0x67 ∷ [])
    ∷ case (calm (0x38 ∷ [])) (Transfer InstructionWrite 0xE8) (DisplayAddress ∷ []) 3 0 (0x00 ∷ [])
    -- P6 two lines, address 67, direction up, a write: address 00
    ∷ past_end (case (calm (0x38 ∷ 0xE7 ∷ [])) (Transfer DataWrite 0x41) (DisplayAddress ∷ []) 0 0 (0x00 ∷ []))
    -- P7 after 04, address 00, a write: 4F with one line, 67 with two
    ∷ past_end (case (calm (0x04 ∷ [])) (Transfer DataWrite 0x41) (DisplayAddress ∷ []) 0 0 (0x4F ∷ []))
    ∷ past_end (case (calm (0x38 ∷ 0x04 ∷ [])) (Transfer DataWrite 0x41) (DisplayAddress ∷ []) 0 0 (0x67 ∷ []))
    -- P8 two lines, 1C from shift 0: digit 0 shows cells 39 and 79; 18 instead: cells 1 and 41
    ∷ case (calm (0x38 ∷ [])) (Transfer InstructionWrite 0x1C) (DigitZero ∷ []) 0 0 (39 ∷ 79 ∷ [])
    ∷ case (calm (0x38 ∷ [])) (Transfer InstructionWrite 0x18) (DigitZero ∷ []) 0 0 (1 ∷ 41 ∷ [])
    -- P9 7F then a data write, direction up: character address 00
    ∷ past_end (case (calm (0x7F ∷ [])) (Transfer DataWrite 0x1F) (CharacterAddress ∷ []) 0 0 (0x00 ∷ []))
    -- P10 four lines, half 0 of an instruction waiting: the restart's first write completes 03 hex, home (from address 05 and shift 1)
    ∷ case (calm (0x85 ∷ 0x18 ∷ 0x20 ∷ 0x00 ∷ [])) (Transfer InstructionWrite 0x30) (DisplayAddress ∷ Shift ∷ BusyTime ∷ []) 0 0 (0x00 ∷ 0 ∷ 410 ∷ [])
    -- P11 four lines, a data half waiting, then an instruction half: refusal 2, no cell changed
    ∷ case (calm (0x20 ∷ []) ++ (Transfer DataWrite 0x40 ∷ [])) (Transfer InstructionWrite 0x30) (AllCells ∷ AllCharacters ∷ []) 2 0 (replicate 80 0x20 ++ replicate 64 0)
    ∷ []

-- the claim: in each case what is found is what is wanted
abbrev pub ExamplesHold : Type 0
ExamplesHold = map found examples ≡ map (λ (p : Case). p.wanted) examples
