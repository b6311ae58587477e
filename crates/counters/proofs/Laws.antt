-- Address and cell, steps of the counter, moves of the display: each law one computed test of all numbers.
use Prim.Native.Nat.{ℕ, ◌<◌}
use lib.Dec.{T, ltb, leb, eqb, ltb→lt, leb→le, eqb→eq}
use mathlib.Core.Bool.{Bool, true, false, not, ◌&&◌, beq}
use mathlib.Core.Logic.{⊎_elim}
use mathlib.Core.Path.{ap}
use native.Mathlib.Omega.{arith}
use Rattle.condition.proofs.Tests.{each, every, ◌⇒◌, implies, and_right, or_cases, same}
use Rattle.counters.specs.Address.{display, character, cell, has_display, has_character, cell_of, address_of, step_display, step_character, ends_display, ends_character, passes_display, passes_character}
use Rattle.counters.specs.Counter.{has_counter, step_of, passes_of, number_on}
use Rattle.counters.specs.Shift.{shift, last_shift, has_shift, move_of}
use Rattle.counters.specs.Theorems.{CellExists, AddressComesBack, AddressExists, CellComesBack, StepExists, StepBack, is_beside, PassesExactly, NumberBelow, MoveExists, MoveBack}
use Rattle.counters.specs.Wrap.{next, previous}
use Rattle.counters.specs.declared.LineMode.{LineMode}
use Rattle.counters.specs.declared.LineMode.TheVariants.{One, Two}
use Rattle.counters.specs.declared.address.Cell.{Cell}
use Rattle.counters.specs.declared.address.CharacterAddress.{CharacterAddress}
use Rattle.counters.specs.declared.address.DisplayAddress.{DisplayAddress}
use Rattle.counters.specs.declared.counter.Counter.TheVariants.{Display, Character}
use Rattle.counters.specs.declared.shift.Shift.{Shift}

-- a law of addresses is a test of 128 numbers
display_below : (mode : LineMode) (n : ℕ) → T (has_display mode (display n)) → n < 0x80
unfolding has_display
display_below One n t = omega (arith, leb→le n 0x4F t)
display_below Two n t =
    ⊎_elim
    (λ (u : T (leb n 0x27)). omega (arith, leb→le n 0x27 u))
    (λ (u : T (leb 0x40 n && leb n 0x67)). omega (arith, leb→le n 0x67 (and_right (leb 0x40 n) (leb n 0x67) u)))
    (or_cases (leb n 0x27) (leb 0x40 n && leb n 0x67) t)

-- what is tested of every display address that a mode has, in both modes
OnDisplay : (LineMode → ℕ → Bool) → LineMode → ℕ → Bool
OnDisplay law mode n = has_display mode (display n) ⇒ law mode n

on_display : (law : LineMode → ℕ → Bool) → T (every (OnDisplay law One) 0x80) × T (every (OnDisplay law Two) 0x80)
    → (mode : LineMode) (a : DisplayAddress) → T (has_display mode a) → T (law mode a.0)
unfolding OnDisplay
on_display law all One a t = implies (has_display One a) (law One a.0) (each (OnDisplay law One) 0x80 all.0 a.0 (display_below One a.0 t)) t
on_display law all Two a t = implies (has_display Two a) (law Two a.0) (each (OnDisplay law Two) 0x80 all.1 a.0 (display_below Two a.0 t)) t

-- what is tested of the cells 0 to 79, in both modes
on_cell : (law : LineMode → ℕ → Bool) → T (every (law One) 80) × T (every (law Two) 80)
    → (mode : LineMode) (c : Cell) → c.0 < 80 → T (law mode c.0)
on_cell law all One c h = each (law One) 80 all.0 c.0 h
on_cell law all Two c h = each (law Two) 80 all.1 c.0 h

-- ---- address and cell
to_cell_and_back : LineMode → ℕ → Bool
to_cell_and_back mode n = eqb (address_of mode (cell_of mode (display n))).0 n

pub address_comes_back : AddressComesBack
unfolding to_cell_and_back OnDisplay has_display cell_of address_of
address_comes_back mode a t = ap display (eqb→eq _ _ (on_display to_cell_and_back (tt, tt) mode a t))

to_address_and_back : LineMode → ℕ → Bool
to_address_and_back mode n = eqb (cell_of mode (address_of mode (cell n))).0 n

pub cell_comes_back : CellComesBack
unfolding to_address_and_back cell_of address_of
cell_comes_back mode c h = ap cell (eqb→eq _ _ (on_cell to_address_and_back (tt, tt) mode c h))

cell_small : LineMode → ℕ → Bool
cell_small mode n = ltb (cell_of mode (display n)).0 80

pub cell_exists : CellExists
unfolding cell_small OnDisplay has_display cell_of
cell_exists mode a t = ltb→lt _ _ (on_display cell_small (tt, tt) mode a t)

address_there : LineMode → ℕ → Bool
address_there mode n = has_display mode (address_of mode (cell n))

pub address_exists : AddressExists
unfolding address_there has_display address_of
address_exists mode c h = on_cell address_there (tt, tt) mode c h

-- ---- one step of the counter
pub home_exists : (mode : LineMode) → T (has_counter mode (Display (display 0x00)))
unfolding has_counter has_display
home_exists One = tt
home_exists Two = tt

pub number_below : NumberBelow
unfolding has_counter has_character number_on
number_below mode (Display a) t = display_below mode a.0 t
number_below mode (Character a) t = omega (arith, leb→le a.0 0x3F t)

-- the rules of the counter, opened by one name
counting : Unit {0}
unfolding has_counter has_display has_character number_on step_of step_display step_character next previous
counting = tt

display_steps : Bool → LineMode → ℕ → Bool
display_steps up mode n = has_counter mode (step_of mode up (Display (display n)))

character_steps : Bool → ℕ → Bool
character_steps up n = has_counter One (step_of One up (Character (character n)))

on_character : (law : ℕ → Bool) → T (every law 0x40) → (a : CharacterAddress) → T (has_character a) → T (law a.0)
unfolding has_character
on_character law all a t = each law 0x40 all a.0 (omega (arith, leb→le a.0 0x3F t))

pub step_exists : StepExists
unfolding display_steps character_steps OnDisplay counting
step_exists true mode (Display a) t = on_display (display_steps true) (tt, tt) mode a t
step_exists false mode (Display a) t = on_display (display_steps false) (tt, tt) mode a t
step_exists true mode (Character a) t = on_character (character_steps true) tt a t
step_exists false mode (Character a) t = on_character (character_steps false) tt a t

display_returns : Bool → LineMode → ℕ → Bool
display_returns up mode n = eqb (number_on (step_of mode (not up) (step_of mode up (Display (display n))))) n

character_returns : Bool → ℕ → Bool
character_returns up n = eqb (number_on (step_of One (not up) (step_of One up (Character (character n))))) n

pub step_back : StepBack
unfolding display_returns character_returns OnDisplay counting
step_back true mode (Display a) t = ap (λ n. Display (display n)) (eqb→eq _ _ (on_display (display_returns true) (tt, tt) mode a t))
step_back false mode (Display a) t = ap (λ n. Display (display n)) (eqb→eq _ _ (on_display (display_returns false) (tt, tt) mode a t))
step_back true mode (Character a) t = ap (λ n. Character (character n)) (eqb→eq _ _ (on_character (character_returns true) tt a t))
step_back false mode (Character a) t = ap (λ n. Character (character n)) (eqb→eq _ _ (on_character (character_returns false) tt a t))

display_passes : Bool → LineMode → ℕ → Bool
display_passes up mode n =
    beq (passes_of mode up (Display (display n))) (not (is_beside up n (number_on (step_of mode up (Display (display n))))))

character_passes : Bool → ℕ → Bool
character_passes up n =
    beq (passes_of One up (Character (character n))) (not (is_beside up n (number_on (step_of One up (Character (character n))))))

pub passes_exactly : PassesExactly
unfolding display_passes character_passes OnDisplay counting passes_of passes_display passes_character ends_display ends_character
passes_exactly true mode (Display a) t = same _ _ (on_display (display_passes true) (tt, tt) mode a t)
passes_exactly false mode (Display a) t = same _ _ (on_display (display_passes false) (tt, tt) mode a t)
passes_exactly true mode (Character a) t = same _ _ (on_character (character_passes true) tt a t)
passes_exactly false mode (Character a) t = same _ _ (on_character (character_passes false) tt a t)

-- ---- one move of the display
pub no_shift_exists : (mode : LineMode) → T (has_shift mode (shift 0))
unfolding has_shift last_shift
no_shift_exists One = tt
no_shift_exists Two = tt

-- what is tested of every shift, in both modes
on_shift : (law : LineMode → ℕ → Bool) → T (every (law One) 80) × T (every (law Two) 40)
    → (mode : LineMode) (s : Shift) → T (has_shift mode s) → T (law mode s.0)
unfolding has_shift last_shift
on_shift law all One s t = each (law One) 80 all.0 s.0 (omega (arith, leb→le s.0 79 t))
on_shift law all Two s t = each (law Two) 40 all.1 s.0 (omega (arith, leb→le s.0 39 t))

shift_moves : Bool → LineMode → ℕ → Bool
shift_moves right mode n = has_shift mode (move_of mode right (shift n))

pub move_exists : MoveExists
unfolding shift_moves has_shift last_shift move_of next previous
move_exists true mode s t = on_shift (shift_moves true) (tt, tt) mode s t
move_exists false mode s t = on_shift (shift_moves false) (tt, tt) mode s t

shift_returns : Bool → LineMode → ℕ → Bool
shift_returns right mode n = eqb (move_of mode (not right) (move_of mode right (shift n))).0 n

pub move_back : MoveBack
unfolding shift_returns move_of last_shift next previous
move_back true mode s t = ap shift (eqb→eq _ _ (on_shift (shift_returns true) (tt, tt) mode s t))
move_back false mode s t = ap shift (eqb→eq _ _ (on_shift (shift_returns false) (tt, tt) mode s t))
