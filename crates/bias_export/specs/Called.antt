-- The sheet as C calls for it, with numbers alone.
use Rattle.std.specs.Prelude.{ℕ, eqb, length, Bool, cond, List, ◌≡◌}
use Rattle.lent.specs.Buffer.{unless_refused}
use Rattle.printing.specs.Answers.{answer_for}
use Rattle.sheet.specs.Sheet.{sheet_of, most_sheet}
use Rattle.voltages.specs.Voltages.{bias_of, drive_of}

-- what `bias_sheet` promises: the size and the buffer of `sheet`
pub record Called (vdd span : ℕ) (fifth : Bool) (out : List ℕ) (r : ℕ) (left : List ℕ) : Type 0 where
  pub size : r ≡ cond (eqb (answer_for most_sheet out) 0) (length (sheet_of (drive_of vdd span (bias_of fifth)))) 0
  pub buffer : left ≡ unless_refused (answer_for most_sheet out) (sheet_of (drive_of vdd span (bias_of fifth))) out
