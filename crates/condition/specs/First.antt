-- "Several at once": the first condition of a list that holds gives its number, and each number is given exactly when its rule says.
use Rattle.std.specs.Prelude.{ℕ, T, eqb, Bool, true, cond, ◌&&◌, not, List, [], ◌∷◌, ◌↔◌, ◌≡◌}

-- a number, and when it is given
pub record Rule : Type 0 where
  pub number : ℕ
  pub condition : Bool

infix 25 ◌when◌
abbrev pub ◌when◌ : ℕ → Bool → Rule
n when b = record { number = n; condition = b }

-- the number of the first rule whose condition holds; where none holds, done
unfoldable pub first_of : List Rule → (done : ℕ) → ℕ
first_of [] done = done
first_of (rule ∷ rules) done = cond rule.condition rule.number (first_of rules done)

-- the number n is given exactly when its condition holds and none before it does; `before` says that none of the earlier ones holds
unfoldable pub ExactlyFrom : (before : Bool) → (n : ℕ) → List Rule → (done : ℕ) → Type 0
ExactlyFrom before n [] done = (n ≡ done) ↔ T before
ExactlyFrom before n (rule ∷ rules) done =
    ((n ≡ rule.number) ↔ T (before && rule.condition)) × ExactlyFrom (before && not rule.condition) n rules done

abbrev pub Exactly : (n : ℕ) → List Rule → (done : ℕ) → Type 0
Exactly n rules done = ExactlyFrom true n rules done

-- ---- no number stands twice
unfoldable pub absent : ℕ → List Rule → (done : ℕ) → Bool
absent n [] done = not (eqb n done)
absent n (rule ∷ rules) done = not (eqb n rule.number) && absent n rules done

unfoldable pub distinct : List Rule → (done : ℕ) → Bool
distinct [] done = true
distinct (rule ∷ rules) done = absent rule.number rules done && distinct rules done

-- where no number stands twice, the first condition that holds gives each number exactly when its rule says
abbrev pub FirstGivenExactly : Type 0
FirstGivenExactly = (rules : List Rule) (done : ℕ) → T (distinct rules done) → Exactly (first_of rules done) rules done
