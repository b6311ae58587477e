-- Lists made in order.
use Rattle.std.specs.Prelude.{ℕ, zero, suc, List, [], ◌∷◌, ◌++◌}

-- the lists of f at 0 to n - 1, one behind the other
unfoldable pub parts : ℕ → (ℕ → List ℕ) → List ℕ
parts zero f = []
parts (suc n) f = parts n f ++ f n

-- the values of f at 0 to n - 1
unfoldable pub values : ℕ → (ℕ → ℕ) → List ℕ
values n f = parts n (λ k. f k ∷ [])
