-- Laws of a text that is put byte by byte.
use Prim.Native.Nat.{ℕ, ◌+◌, ◌≤◌, ◌<◌}
use lib.ListN.{length, take, set, get_or}
use lib.Seq.{take-suc}
use mathlib.Core.List.{List, [], ◌∷◌, ◌++◌}
use mathlib.Core.Path.{◌≡◌}
use native.Mathlib.Numerals.{add-one}
use native.Mathlib.Omega.{arith}
use Rattle.lent.proofs.Placed.{puts_one, puts_then}
use Rattle.lent.specs.Put.{Puts}

-- the next byte of a text behind those in front of it
pub puts_next : (text : List ℕ) (place : ℕ) (out now : List ℕ) (at : ℕ) → place + at < length now → at < length text → place ≤ length out → Puts (take at text) place out (place + at) now → Puts (take (at + 1) text) place out (place + (at + 1)) (set now (place + at) (get_or text at 0))
puts_next text place out now at room more start p =
    let bytes : take (at + 1) text ≡ take at text ++ (get_or text at 0 ∷ []) = rw add-one (take-suc text at 0 more) in
    let end : place + (at + 1) ≡ place + at + 1 = omega arith in
    rw (bytes, end) (puts_then _ _ _ _ _ _ _ _ start p (puts_one _ _ _ room))
