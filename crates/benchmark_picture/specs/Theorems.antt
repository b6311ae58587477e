-- Any two outcomes that the promise of `benchmark_picture` allows are equal.
use Rattle.std.specs.Prelude.{ℕ, Bool, List, ◌≡◌}
use Rattle.benchmark_picture.specs.Drawn.{Drawn}

abbrev pub BenchmarkPictureSettled : Type 0
BenchmarkPictureSettled =
    (bytes : List ℕ) (digits : ℕ) (rom : List ℕ) (dark : Bool) (out : List ℕ) (number number' : ℕ) (left left' : List ℕ)
    → Drawn bytes digits rom dark out number left
    → Drawn bytes digits rom dark out number' left'
    → (number ≡ number') × (left ≡ left')
