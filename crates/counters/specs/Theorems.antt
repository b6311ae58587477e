-- What is proved of addresses, cells, the counter and the shift that exist.
use Rattle.std.specs.Prelude.{ℕ, ◌+◌, ◌<◌, T, eqb, Bool, true, false, not, ◌≡◌}
use Rattle.counters.specs.Address.{has_display, cell_of, address_of}
use Rattle.counters.specs.Counter.{has_counter, step_of, passes_of, number_on}
use Rattle.counters.specs.Shift.{has_shift, move_of}
use Rattle.counters.specs.declared.LineMode.{LineMode}
use Rattle.counters.specs.declared.address.Cell.{Cell}
use Rattle.counters.specs.declared.address.DisplayAddress.{DisplayAddress}
use Rattle.counters.specs.declared.counter.Counter.{Counter}
use Rattle.counters.specs.declared.shift.Shift.{Shift}

-- ---- address and cell
-- every display address has a cell, one of the 80, and comes back from it
abbrev pub CellExists : Type 0
CellExists = (mode : LineMode) (a : DisplayAddress) → T (has_display mode a) → (cell_of mode a).0 < 80

abbrev pub AddressComesBack : Type 0
AddressComesBack = (mode : LineMode) (a : DisplayAddress) → T (has_display mode a) → address_of mode (cell_of mode a) ≡ a

-- every cell has an address, and comes back from it
abbrev pub AddressExists : Type 0
AddressExists = (mode : LineMode) (c : Cell) → c.0 < 80 → T (has_display mode (address_of mode c))

abbrev pub CellComesBack : Type 0
CellComesBack = (mode : LineMode) (c : Cell) → c.0 < 80 → cell_of mode (address_of mode c) ≡ c

-- ---- one step of the counter
-- leads to an address that its memory and line mode have; up and down are inverse
abbrev pub StepExists : Type 0
StepExists = (up : Bool) (mode : LineMode) (k : Counter) → T (has_counter mode k) → T (has_counter mode (step_of mode up k))

abbrev pub StepBack : Type 0
StepBack = (up : Bool) (mode : LineMode) (k : Counter) → T (has_counter mode k) → step_of mode (not up) (step_of mode up k) ≡ k

-- the new address is the old one plus 1, of a step down minus 1
abbrev pub is_beside : (up : Bool) → (from to : ℕ) → Bool
is_beside true from to = eqb to (from + 1)
is_beside false from to = eqb from (to + 1)

-- it passes an end exactly when it is not
abbrev pub PassesExactly : Type 0
PassesExactly =
    (up : Bool) (mode : LineMode) (k : Counter) → T (has_counter mode k)
    → passes_of mode up k ≡ not (is_beside up (number_on k) (number_on (step_of mode up k)))

-- the number of an address leaves the highest bit free for the busy flag
abbrev pub NumberBelow : Type 0
NumberBelow = (mode : LineMode) (k : Counter) → T (has_counter mode k) → number_on k < 0x80

-- ---- one move of the display
-- leads to a shift that the line mode has; left and right are inverse
abbrev pub MoveExists : Type 0
MoveExists = (right : Bool) (mode : LineMode) (s : Shift) → T (has_shift mode s) → T (has_shift mode (move_of mode right s))

abbrev pub MoveBack : Type 0
MoveBack = (right : Bool) (mode : LineMode) (s : Shift) → T (has_shift mode s) → move_of mode (not right) (move_of mode right s) ≡ s
