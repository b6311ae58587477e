-- What is proved of text and numbers beside the promises.
use Rattle.std.specs.Prelude.{ℕ, ◌/◌, ◌%◌, ltb, length, cond, List, [], ◌∷◌, ◌++◌, ◌≡◌}
use Rattle.lent.specs.Put.{Puts}
use Rattle.text.specs.Text.{digit_of, decimal_of, meant_by}

-- ---- any two outcomes that a promise allows are equal

-- for each call that puts bytes
abbrev pub PutSettled : Type 0
PutSettled = (new : List ℕ) (place : ℕ) (out : List ℕ) (r r' : ℕ) (left left' : List ℕ) → Puts new place out r left → Puts new place out r' left' → (r ≡ r') × (left ≡ left')

abbrev pub DigitCountSettled : Type 0
DigitCountSettled = (n r r' : ℕ) → r ≡ length (decimal_of n) → r' ≡ length (decimal_of n) → r ≡ r'

-- ---- decimal

-- a number below ten is its own digit; the last digit of another stands behind those of a tenth
abbrev pub DecimalRule : Type 0
DecimalRule = (n : ℕ) → decimal_of n ≡ cond (ltb n 10) (digit_of n ∷ []) (decimal_of (n / 10) ++ (digit_of (n % 10) ∷ []))

-- digits read back as the number
abbrev pub DecimalReadsBack : Type 0
DecimalReadsBack = (n : ℕ) → meant_by 0 (decimal_of n) ≡ n
