-- Helpers of contracts, not rules: what is looked for among the bytes of answers.
use Rattle.std.specs.Prelude.{ℕ, eqb, Bool, false, not, ◌||◌, List, [], ◌∷◌}

-- of bytes in threes, the third of one is not 0
unfoldable pub any_third : List ℕ → Bool
any_third [] = false
any_third (number ∷ []) = false
any_third (number ∷ value ∷ []) = false
any_third (number ∷ value ∷ flag ∷ rest) = not (eqb flag 0) || any_third rest
