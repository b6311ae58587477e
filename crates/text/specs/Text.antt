-- Text as its bytes, and numbers in decimal.
use Prim.Native.Char.{code}
use Prim.Native.String.{String, [] as none, ◌∷◌ as ◌then◌}
use Rattle.std.specs.Prelude.{ℕ, zero, suc, ◌+◌, ◌*◌, ◌-◌, ◌/◌, ◌%◌, ltb, cond, List, [], ◌∷◌, ◌++◌}

-- the codes of the characters of a text
abbrev pub text_of : String → List ℕ
text_of none = []
text_of (character then text) = code character ∷ text_of text

abbrev pub digit_of : ℕ → ℕ
digit_of digit = code "0" + digit

-- at most so many digits of a number: the last stands behind those of a tenth, and a number below ten is its own digit
unfoldable pub digits_of : (most n : ℕ) → List ℕ
digits_of zero n = []
digits_of (suc most) n = cond (ltb n 10) (digit_of n ∷ []) (digits_of most (n / 10) ++ (digit_of (n % 10) ∷ []))

-- a number in decimal, with no zeros in front: it has no more digits than its own size and one
unfoldable pub decimal_of : ℕ → List ℕ
decimal_of n = digits_of (suc n) n

-- the number that digits mean, read from the left
abbrev pub meant_by : (before : ℕ) → List ℕ → ℕ
meant_by before [] = before
meant_by before (digit ∷ more) = meant_by (before * 10 + (digit - code "0")) more

-- a refusal prints only its number
unfoldable pub refused_of : ℕ → List ℕ
refused_of number = text_of "refused " ++ (decimal_of number ++ text_of "\n")
