-- Any two outcomes that a promise allows are equal.
use Rattle.std.specs.Prelude.{ℕ, Bool, List, ◌≡◌}
use Rattle.bias_export.specs.Called.{Called}

abbrev pub CalledSettled : Type 0
CalledSettled =
    (vdd span : ℕ) (fifth : Bool) (out : List ℕ) (r r' : ℕ) (left left' : List ℕ)
    → Called vdd span fifth out r left
    → Called vdd span fifth out r' left'
    → (r ≡ r') × (left ≡ left')
