-- Laws of sizes: what a count of digits that is there tells, and how large a picture can be.
use Prim.Native.Nat.{ℕ, ◌*◌, ◌≤◌}
use lib.Dec.{leb, leb→le}
use mathlib.Core.Bool.{Bool, true, false}
use mathlib.Core.Path.{◌≡◌}
use native.Mathlib.Omega.{arith}
use Rattle.condition.proofs.Tests.{holds, and_left, and_right}
use Rattle.controller.specs.declared.registers.Mode.{Mode}
use Rattle.counters.specs.declared.LineMode.{LineMode}
use Rattle.counters.specs.declared.LineMode.TheVariants.{One, Two}
use Rattle.size.specs.Size.{lines_of, most_digits, has_digits, rows_in, bytes_of, most_dots}

pub most_small : (lines : LineMode) → most_digits lines ≤ 80
unfolding most_digits
most_small One = omega arith
most_small Two = omega arith

pub most_two : (lines : LineMode) → lines ≡ Two → most_digits lines ≡ 40
unfolding most_digits
most_two lines two = rw two

pub digits_counted : (lines : LineMode) (digits : ℕ) → has_digits lines digits ≡ true → (1 ≤ digits) × (digits ≤ 80) × (digits ≤ most_digits lines)
unfolding has_digits
digits_counted lines digits h =
    let most : digits ≤ most_digits lines = leb→le digits (most_digits lines) (and_right (leb 1 digits) _ (holds _ h)) in
    (leb→le 1 digits (and_left (leb 1 digits) _ (holds _ h)), omega (arith, most_small lines), most)

-- no picture has more bytes than the largest
bytes_small : (lines : LineMode) (tall : Bool) (digits : ℕ) → digits ≤ most_digits lines → lines_of lines * rows_in lines tall * digits ≤ most_dots
unfolding lines_of rows_in most_digits
bytes_small One true digits h = omega arith
bytes_small One false digits h = omega arith
bytes_small Two tall digits h = omega arith

pub picture_small : (mode : Mode) (digits : ℕ) → has_digits mode.lines digits ≡ true → bytes_of mode digits ≤ most_dots
picture_small mode digits h = bytes_small mode.lines mode.tall digits (digits_counted mode.lines digits h).2
