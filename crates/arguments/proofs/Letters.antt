-- A word is another where it has the same bytes.
use Prim.Native.Nat.{ℕ}
use lib.Dec.{eqb}
use lib.Pointwise.{pointwise}
use mathlib.Core.List.{List, [], ◌∷◌}
use mathlib.Core.Path.{◌≡◌, refl}
use Rattle.arguments.specs.Words.{is_word}

pub same_bytes : (text word : List ℕ) → pointwise eqb text word ≡ is_word text word
unfolding is_word
same_bytes [] [] = refl
same_bytes [] (b ∷ word) = refl
same_bytes (a ∷ text) [] = refl
same_bytes (a ∷ text) (b ∷ word) = rw (same_bytes text word)
