-- What a word means that a program is started with.
use Prim.Native.Char.{code}
use Rattle.std.specs.Prelude.{ℕ, leb, eqb, Bool, true, false, Option, Some, None, cond, ◌&&◌, List, [], ◌∷◌}
use Rattle.text.specs.Text.{meant_by}

-- ---- a number: decimal, plain digits only, no more than the most

unfoldable pub all_digits : List ℕ → Bool
all_digits [] = true
all_digits (character ∷ word) = (leb (code "0") character && leb character (code "9")) && all_digits word

abbrev pub is_empty : List ℕ → Bool
is_empty [] = true
is_empty (character ∷ word) = false

unfoldable pub number_in : (most : ℕ) → List ℕ → Option ℕ
number_in most word = cond (is_empty word) None (cond (all_digits word && leb (meant_by 0 word) most) (Some (meant_by 0 word)) None)

-- ---- a word, letter by letter

unfoldable pub is_word : (text word : List ℕ) → Bool
is_word [] [] = true
is_word [] (b ∷ word) = false
is_word (a ∷ text) [] = false
is_word (a ∷ text) (b ∷ word) = eqb a b && is_word text word
