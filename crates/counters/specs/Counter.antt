-- "Memories and counters": the address counter belongs to one of the two memories.
use Rattle.std.specs.Prelude.{ℕ, Bool}
use Rattle.counters.specs.Address.{has_display, has_character, step_display, step_character, passes_display, passes_character}
use Rattle.counters.specs.declared.LineMode.{LineMode}
use Rattle.counters.specs.declared.counter.Counter.{Counter}
use Rattle.counters.specs.declared.counter.Counter.TheVariants.{Display, Character}
use Rattle.counters.specs.declared.counter.Stepped.{Stepped}

-- the address is one that its memory and line mode have
unfoldable pub has_counter : LineMode → Counter → Bool
has_counter mode (Display a) = has_display mode a
has_counter mode (Character a) = has_character a

-- one step in whichever memory it belongs to
unfoldable pub step_of : LineMode → (up : Bool) → Counter → Counter
step_of mode up (Display a) = Display (step_display mode up a)
step_of mode up (Character a) = Character (step_character up a)

-- whether that step passes an end
unfoldable pub passes_of : LineMode → (up : Bool) → Counter → Bool
passes_of mode up (Display a) = passes_display mode up a
passes_of mode up (Character a) = passes_character up a

-- what the step answers: the counter behind it, and whether it passed an end
abbrev pub stepped_of : LineMode → (up : Bool) → Counter → Stepped
stepped_of mode up k = record { counter = step_of mode up k; wrap = passes_of mode up k }

-- the address as a number
unfoldable pub number_on : Counter → ℕ
number_on (Display a) = a.0
number_on (Character a) = a.0
