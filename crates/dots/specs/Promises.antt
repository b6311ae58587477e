-- A helper of contracts, not a rule of the paper: what a function of this crate leaves beside what it draws.
use Rattle.std.specs.Prelude.{ℕ, ◌+◌, ◌*◌, ◌<◌, get_or, List, ◌≡◌}

-- a buffer of rows of s values each once f is written down its column e: the other values stay
pub record Column (f : ℕ → ℕ) (rows s e : ℕ) (out left : List ℕ) : Type 0 where
  pub drawn : (row : ℕ) → row < rows → get_or left (row * s + e) 0 ≡ f row
  pub kept : (row k : ℕ) → k < s → (k ≡ e → ⊥) → get_or left (row * s + k) 0 ≡ get_or out (row * s + k) 0
