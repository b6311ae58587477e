-- The rule in two stretches: up to the end of the line the sum has no remainder, from there on it is what lies behind the end.
use Prim.Native.Nat.{ℕ, zero, suc, ◌+◌, ◌*◌, ◌-◌, ◌<◌, ◌≤◌}
use borrow.Author.Tests.{lt-ltb, le-ltb}
use lib.ListN.{take}
use lib.Seq.{take_at}
use mathlib.Core.List.{[], ◌∷◌, ◌++◌, append_assoc, append-nil}
use mathlib.Core.Path.{◌≡◌, refl, ap, sym, ◌∙◌}
use native.Mathlib.Nat.{add-zero, add-suc}
use native.Mathlib.Omega.{arith}
use Rattle.counters.specs.Address.{cell, address_of}
use Rattle.counters.specs.Shift.{last_shift, move_of}
use Rattle.counters.specs.Wrap.{next, previous}
use Rattle.counters.specs.declared.LineMode.{LineMode}
use Rattle.counters.specs.declared.LineMode.TheVariants.{One, Two}
use Rattle.counters.specs.declared.shift.Shift.{Shift}
use Rattle.lent.proofs.Lists.{length_values, values_same}
use Rattle.lent.specs.Lists.{values, parts}
use Rattle.size.specs.Size.{lines_of, most_digits}
use Rattle.dots.specs.Digit.{shown_on}
use Rattle.dots.specs.Stretches.{head_address, last_address, ◌to◌, in_stretches, by_rule, TwoStretches, sheet_tables, SheetTablesHold}

-- ---- cells
-- up to the end of the line the sum has no remainder
pub before_end : (lines : LineMode) (s : Shift) (line d : ℕ) → line < lines_of lines → d < most_digits lines - s.0
    → (shown_on lines s line d).0 ≡ 40 * line + (s.0 + d)
unfolding lines_of most_digits shown_on
before_end One s line d h l = omega arith
before_end Two s line d h l = omega arith

-- from there on the remainder starts again, until the line is through once more
pub from_end : (lines : LineMode) (s : Shift) (line d : ℕ) → line < lines_of lines → s.0 < most_digits lines → most_digits lines - s.0 ≤ d → d - (most_digits lines - s.0) < most_digits lines
    → (shown_on lines s line d).0 ≡ 40 * line + (d - (most_digits lines - s.0))
unfolding lines_of most_digits shown_on
from_end One s line d h hs l m = omega arith
from_end Two s line d h hs l m = omega arith

-- ---- addresses
line_address_lem : (lines : LineMode) (line place : ℕ) → line < lines_of lines → place < most_digits lines → (address_of lines (cell (40 * line + place))).0 ≡ head_address lines line + place
unfolding lines_of most_digits address_of head_address
line_address_lem One line place h l = omega arith
line_address_lem Two zero place h l = rw (lt-ltb (0 + place) 40 (omega arith))
line_address_lem Two (suc zero) place h l = rw (le-ltb (40 + place) 40 (omega arith)) (omega arith)
line_address_lem Two (suc (suc line)) place h l = omega arith

shown_address : (lines : LineMode) (s : Shift) (line d place : ℕ) → line < lines_of lines → place < most_digits lines → (shown_on lines s line d).0 ≡ 40 * line + place
    → (address_of lines (shown_on lines s line d)).0 ≡ head_address lines line + place
shown_address lines s line d place h l e = ap (λ (n : ℕ). (address_of lines (cell n)).0) e ∙ line_address_lem lines line place h l

-- how many addresses there are from a place of a line to its last
up_to_end : (lines : LineMode) (line place : ℕ) → last_address lines line + 1 - (head_address lines line + place) ≡ most_digits lines - place
unfolding most_digits head_address last_address
up_to_end One line place = omega arith
up_to_end Two line place = omega arith

-- ---- values
values_add : (a b : ℕ) (f : ℕ → ℕ) → values (a + b) f ≡ values a f ++ values b (λ k. f (a + k))
unfolding values parts
values_add a zero f = rw (add-zero, append-nil) refl
values_add a (suc b) f = rw (add-suc, values_add a b f) (append_assoc (values a f) (values b (λ k. f (a + k))) (f (a + b) ∷ []))

-- the first n values of f, where it is g up to a and h from there on
values_in_two : (n a b : ℕ) (f g h : ℕ → ℕ) → n ≤ a + b → ((k : ℕ) → k < a → f k ≡ g k) → ((k : ℕ) → k < b → f (a + k) ≡ h k) → values n f ≡ take n (values a g ++ values b h)
values_in_two n a b f g h enough first again =
    let rest : n + (a + b - n) ≡ a + b = omega arith in
    sym (take_at (values n f) (values (a + b - n) (λ k. f (n + k))) n (length_values n f))
    ∙ ap (take n) (sym (values_add n (a + b - n) f) ∙ ap (λ (m : ℕ). values m f) rest ∙ values_add a b f ∙ rw (values_same a f g first, values_same b _ h again) refl)

pub two_stretches : TwoStretches
unfolding by_rule in_stretches ◌to◌
two_stretches lines s line digits hs hl hd =
    let first_long = up_to_end lines line s.0 in
    let whole_long = up_to_end lines line 0 in
    values_in_two digits _ _ _ _ _ (omega arith)
    (λ k l. shown_address lines s line k _ hl (omega arith) (before_end lines s line k hl (omega arith)) ∙ omega arith)
    (λ k l. shown_address lines s line _ _ hl (omega arith) (from_end lines s line _ hl hs (omega arith) (omega arith)) ∙ omega arith)

pub sheet_tables_hold : SheetTablesHold
unfolding address_of last_shift move_of next previous values parts shown_on head_address last_address ◌to◌ in_stretches by_rule sheet_tables
sheet_tables_hold = (refl, refl)
