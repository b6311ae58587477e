-- What is proved of a report beside the promise.
use Rattle.std.specs.Prelude.{ℕ, ◌≤◌, length, take, List, [], ◌∷◌, Result, Ok, ◌⊎◌, ◌≡◌}
use Rattle.condition.specs.First.{Exactly}
use Rattle.record.specs.Record.{check_of}
use Rattle.refusal.specs.declared.Refusal.{Refusal}
use Rattle.text.specs.Text.{text_of}
use Rattle.report.specs.Report.{record_for, line_for, refusals, answer_for, Reported}
use Rattle.report.specs.declared.written.Sizes.{Sizes}

-- 6 and 0 are given exactly when the rule says
abbrev pub ReportGivenExactly : Type 0
ReportGivenExactly = (mended line : ℕ) → Exactly (answer_for mended line) (refusals mended line) 0

-- the record and the line are in their buffers, at the front
pub record BothAtTheFront (bytes : List ℕ) (sizes : Sizes) (mended_left line_left : List ℕ) : Type 0 where
  pub mended_fits : sizes.mended ≤ length mended_left
  pub line_fits : sizes.line ≤ length line_left
  pub mended_written : take sizes.mended mended_left ≡ record_for bytes
  pub line_written : take sizes.line line_left ≡ line_for bytes

abbrev pub ReportedAtTheFront : Type 0
ReportedAtTheFront = (bytes mended line : List ℕ) (sizes : Sizes) (mended_left line_left : List ℕ) → Reported bytes mended line (Ok sizes) mended_left line_left → BothAtTheFront bytes sizes mended_left line_left

-- what goes to standard output is nothing or a sound record
abbrev pub NothingOrSound : Type 0
NothingOrSound = (bytes : List ℕ) → (record_for bytes ≡ []) ⊎ (check_of (record_for bytes) ≡ 0)

-- the paper's example without its last byte
abbrev pub cut_example : List ℕ
cut_example = 0x00 ∷ 0x13 ∷ 0x01 ∷ 0x00 ∷ 0x00 ∷ 0x38 ∷ 0x04 ∷ 0x0E ∷ 0xA6 ∷ 0x00 ∷ 0x00 ∷ 0x38 ∷ 0x02 ∷ 0x00 ∷ 0x00 ∷ 0x04 ∷ 0x00 ∷ 0x0A ∷ 0x02 ∷ 0x00 ∷ []

abbrev pub CutExample : Type 0
CutExample =
    (record_for cut_example ≡ 0x00 ∷ 0x10 ∷ 0x01 ∷ 0x00 ∷ 0x00 ∷ 0x38 ∷ 0x04 ∷ 0x0E ∷ 0xA6 ∷ 0x00 ∷ 0x00 ∷ 0x38 ∷ 0x02 ∷ 0x00 ∷ 0x00 ∷ 0x04 ∷ 0x00 ∷ 0x0A ∷ [])
    × (line_for cut_example ≡ text_of "kept 5 dropped 2 length altered\n")

-- any two outcomes that the promise allows are equal
abbrev pub ReportSettled : Type 0
ReportSettled =
    (bytes mended line : List ℕ) (r r' : Result Sizes Refusal) (mended_left mended_left' line_left line_left' : List ℕ)
    → Reported bytes mended line r mended_left line_left → Reported bytes mended line r' mended_left' line_left' → (r ≡ r') × (mended_left ≡ mended_left') × (line_left ≡ line_left')
