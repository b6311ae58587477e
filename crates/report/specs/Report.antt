-- What the program `mend` writes: the mended record to standard output, one line to standard error.
use Rattle.std.specs.Prelude.{ℕ, ◌+◌, ltb, eqb, length, Bool, cond, ◌||◌, List, [], ◌∷◌, ◌++◌, Result, IfOk, ◌≡◌}
use Rattle.condition.specs.First.{Rule, ◌when◌, first_of}
use Rattle.lent.specs.Buffer.{unless_refused}
use Rattle.mending.specs.Mend.{mended_of, mend_of, told_of}
use Rattle.mending.specs.declared.Mended.{Mended}
use Rattle.record.specs.Record.{most_bytes}
use Rattle.refusal.specs.Refusals.{number_of}
use Rattle.refusal.specs.declared.Refusal.{Refusal}
use Rattle.text.specs.Text.{text_of, decimal_of, refused_of}
use Rattle.report.specs.declared.written.Sizes.{Sizes}

-- `kept K dropped D length altered` or `kept K dropped D length kept`
unfoldable pub counts_of : Mended → List ℕ
counts_of told =
    (text_of "kept " ++ (decimal_of told.kept ++ text_of " "))
    ++ (text_of "dropped " ++ (decimal_of told.dropped ++ text_of " "))

unfoldable pub line_of : Mended → List ℕ
line_of told = counts_of told ++ cond told.altered (text_of "length altered\n") (text_of "length kept\n")

-- all bytes are counted, up to the 65,537 that a length field can speak of
abbrev pub too_long : List ℕ → Bool
too_long bytes = ltb (2 + 65535) (length bytes)

-- 7 or 8; into a buffer that has room for every record, 6 is never given
abbrev pub refusal_of : List ℕ → ℕ
refusal_of bytes = mend_of bytes most_bytes

-- above that `too long`; on a refusal `refused 7` or `refused 8`
unfoldable pub line_for : List ℕ → List ℕ
line_for bytes =
    cond (too_long bytes) (text_of "too long\n")
    (cond (eqb (refusal_of bytes) 0) (line_of (told_of bytes)) (refused_of (refusal_of bytes)))

-- and nothing on standard output
unfoldable pub record_for : List ℕ → List ℕ
record_for bytes = cond (too_long bytes) [] (cond (eqb (refusal_of bytes) 0) (mended_of bytes) [])

-- the longest line: numbers of 4 and 5 digits, and that the length was altered
abbrev pub most_line : ℕ
most_line = 24 + 15

-- ---- the answer

-- 6: a lent buffer has no room for the longest of its kind
abbrev pub refusals : (mended line : ℕ) → List Rule
refusals mended line = (6 when (ltb mended most_bytes || ltb line most_line)) ∷ []

unfoldable pub answer_for : (mended line : ℕ) → ℕ
answer_for mended line = first_of (refusals mended line) 0

-- what `report` promises, of both buffers
pub record Reported (bytes mended line : List ℕ) (r : Result Sizes Refusal) (mended_left line_left : List ℕ) : Type 0 where
  pub number : number_of r ≡ answer_for (length mended) (length line)
  pub value : IfOk r (λ sizes. sizes ≡ record { mended = length (record_for bytes); line = length (line_for bytes) })
  pub mended_buffer : mended_left ≡ unless_refused (answer_for (length mended) (length line)) (record_for bytes) mended
  pub line_buffer : line_left ≡ unless_refused (answer_for (length mended) (length line)) (line_for bytes) line
