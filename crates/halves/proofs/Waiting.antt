-- A half that waits is below 16, the half of a read is 0; halves of one kind agree; what is completed and answered, by the line count.
use Prim.Native.Nat.{ℕ, ◌+◌, ◌*◌, ◌≤◌}
use lib.Dec.{T, leb, leb→le, le→leb}
use mathlib.Core.Bool.{Bool, true, false, cond}
use mathlib.Core.Path.{◌≡◌, refl}
use native.Mathlib.Omega.{arith}
use Rattle.condition.proofs.Tests.{and_right}
use Rattle.event.specs.Kind.{is_read}
use Rattle.event.specs.declared.Kind.{Kind}
use Rattle.event.specs.declared.Kind.TheVariants.{InstructionWrite, DataWrite, StatusRead, DataRead}
use Rattle.halves.specs.Halves.{upper, lower, is_four, most_half, half_fits, upper_of, is_first, disagrees, completed, answered}
use Rattle.halves.specs.Theorems.{UpperFits, FirstFits}
use Rattle.halves.specs.declared.Half.{Half}
use Rattle.halves.specs.declared.LineCount.{LineCount}
use Rattle.halves.specs.declared.LineCount.TheVariants.{Eight, Four}

most_half_small : (read : Bool) → cond read 0 15 ≤ 15
most_half_small true = omega arith
most_half_small false = omega arith

pub upper_fits : UpperFits
unfolding half_fits
upper_fits b Half.Nothing t = omega arith
upper_fits b (Half.Waiting k u) t =
    let h : u ≤ most_half k = leb→le u (most_half k) (and_right (is_four b) (leb u (most_half k)) t) in
    omega (arith, h, most_half_small (is_read k))

held_fits : (read : Bool) (n : ℕ) → T (leb (cond read 0 (upper n)) (cond read 0 15))
held_fits true n = tt
held_fits false n = le→leb (upper n) 15 (omega arith)

pub first_fits : FirstFits
unfolding half_fits is_first is_four
first_fits Eight Half.Nothing k n t = absurd t
first_fits Four Half.Nothing k n t = held_fits (is_read k) n
first_fits b (Half.Waiting w u) k n t = absurd t

-- halves of one kind agree
pub same_kind_agrees : (b : LineCount) (k : Kind) (u : ℕ) → disagrees b (Half.Waiting k u) k ≡ false
unfolding disagrees is_four
same_kind_agrees Eight k u = refl
same_kind_agrees Four InstructionWrite u = refl
same_kind_agrees Four DataWrite u = refl
same_kind_agrees Four StatusRead u = refl
same_kind_agrees Four DataRead u = refl

-- ---- by the line count, as the code tests it
pub completed_by_lines : (b : LineCount) (h : Half) (n : ℕ) → completed b h n ≡ cond (is_four b) (upper_of h * 16 + upper n) n
unfolding completed is_four
completed_by_lines Eight h n = refl
completed_by_lines Four h n = refl

pub answered_by_lines : (b : LineCount) (v : ℕ) → answered b v ≡ cond (is_four b) (lower v * 16) v
unfolding answered is_four
answered_by_lines Eight v = refl
answered_by_lines Four v = refl
