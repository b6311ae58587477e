-- Laws of one row: bits packed one by one, and the line end behind the marks.
use Prim.Native.Nat.{ℕ, zero, suc, ◌+◌, ◌*◌, ◌^◌, ◌≤◌, ◌<◌}
use lib.ListN.{length, get_or, set, replicate}
use lib.Seq.{drop-cons, drop-length, set_at}
use mathlib.Core.List.{List, [], ◌∷◌, ◌++◌}
use mathlib.Core.Path.{◌≡◌, refl}
use native.Mathlib.Nat.{two-pow-succ, pow-le-pow_right}
use native.Mathlib.Numerals.{add-one}
use native.Mathlib.Omega.{arith}
use Rattle.lent.proofs.Lists.{length_values, Filled}
use Rattle.lent.specs.Lists.{values}
use Rattle.drawing.specs.Row.{packed, image_row}

-- ---- bits
pub below_128 : (byte n : ℕ) → byte < 2 ^ n → n < 8 → byte < 128
below_128 byte n h l =
    let m : 2 ^ n ≤ 2 ^ 7 = pow-le-pow_right {n = 2} (omega arith) {j = 7} (omega arith) in
    omega arith

pub packed_small : (byte b n : ℕ) → byte < 2 ^ n → b ≤ 1 → 2 * byte + b < 2 ^ (n + 1)
packed_small byte b n h l = rw (add-one, two-pow-succ) (omega arith)

pub packed_next : (bit : ℕ → ℕ) (byte b n : ℕ) → byte ≡ packed n bit → b ≡ bit n → 2 * byte + b ≡ packed (n + 1) bit
unfolding packed
packed_next bit byte b n e h = rw (add-one, e, h)

-- ---- marks
-- a byte behind the n values that a buffer has taken, where it has room for no more
pub values_end : (f : ℕ → ℕ) (d out : List ℕ) (k n v : ℕ) → Filled f d out k → k ≡ n → length d ≡ n + 1 → set out n v ≡ values n f ++ (v ∷ [])
values_end f d out k n v t e l =
    let room : n < length d = omega arith in
    let whole : suc n ≡ length d = omega arith in
    rw (t.2, e, drop-cons d n 0, whole, drop-length) (set_at (values n f) _ [] v n (length_values n f))

-- ---- a blank row
pub set_only : (out : List ℕ) (v : ℕ) → length out ≡ 1 → set out 0 v ≡ v ∷ []
set_only [] v h = absurd (omega arith)
set_only (a ∷ []) v h = refl
set_only (a ∷ b ∷ out) v h = absurd (omega arith)

none_at : (n digit : ℕ) → ◌≡◌ {A = ℕ} (get_or (replicate n 0) digit 0) 0
none_at zero digit = refl
none_at (suc n) zero = refl
none_at (suc n) (suc digit) = none_at n digit

pub no_dots : (n digits : ℕ) → image_row digits (λ digit. get_or (replicate n 0) digit 0) ≡ image_row digits (λ digit. 0)
no_dots n digits = simp none_at
