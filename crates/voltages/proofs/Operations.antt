-- An operation on values that are not negative is one rounding of their fractions' product, quotient or difference; an order is their fractions'.
use Prim.Native.Nat.{ℕ, ◌+◌, ◌-◌, ◌*◌, ◌<◌, ◌≤◌}
use borrow.Author.Tests.{ltb-true, ltb-false, lt-ltb, le-ltb, ne_eqb}
use lib.Dec.{T, ltb}
use lib.Ieee.{Float, nan, inf, fin, binary32, below, div, lt, mul, sub, sum, round, up, down, unlike}
use lib.Ieee.Exact.{HasValue}
use lib.Ieee.Fits.{down_pos}
use lib.Ieee.Positive.{first_pos}
use lib.Ieee.Scale.{round_same}
use mathlib.Core.Bool.{Bool, true, false, cond, not}
use mathlib.Core.Path.{◌≡◌, ◌∙◌, ap, refl, sym}
use native.Mathlib.Nat.{le_of_mul-le-mul_right, lt_of_mul-lt-mul_right, mul_assoc, mul_comm, mul-le-mul_right, mul-lt-mul_of_pos_right, mul-mul-mul_comm, mul-one, mul-pos, mul_right_comm, mul-sub}
use native.Mathlib.Omega.{arith}

pub product : (x y : Float) (a b c d : ℕ) → 0 < c → 0 < d → HasValue x false a c → HasValue y false b d → mul binary32 x y ≡ round binary32 false (a * b) (c * d)
unfolding mul
product nan y a b c d p q v w = absurd v
product (inf s) y a b c d p q v w = absurd v
product (fin s m e) nan a b c d p q v w = absurd w
product (fin s m e) (inf t) a b c d p q v w = absurd w
product (fin s m e) (fin t n f) a b c d p q v w =
    ap (λ (s : Bool). round binary32 (unlike s t) (m * up e * (n * up f)) (down e * down f)) v.0
    ∙ ap (λ (t : Bool). round binary32 (unlike false t) (m * up e * (n * up f)) (down e * down f)) w.0
    ∙ round_same binary32 false (m * up e * (n * up f)) (down e * down f) (a * b) (c * d) (mul-pos (down_pos e) (down_pos f)) (mul-pos p q)
    (mul-mul-mul_comm (m * up e) (n * up f) c d
    ∙ ap (λ (z : ℕ). z * (n * up f * d)) v.1
    ∙ ap (λ (z : ℕ). a * down e * z) w.1
    ∙ mul-mul-mul_comm a (down e) b (down f))

-- by a whole number above 0
pub quotient : (x y : Float) (a c d : ℕ) → 0 < c → 0 < d → HasValue x false a c → HasValue y false d 1 → div binary32 x y ≡ round binary32 false a (c * d)
unfolding div
quotient nan y a c d p q v w = absurd v
quotient (inf s) y a c d p q v w = absurd v
quotient (fin s m e) nan a c d p q v w = absurd w
quotient (fin s m e) (inf t) a c d p q v w = absurd w
quotient (fin s m e) (fin t n f) a c d p q v w =
    let divisor : n * up f ≡ d * down f = sym (mul-one (n * up f)) ∙ w.1 in
    let above : 0 < n * up f = rw divisor (mul-pos q (down_pos f)) in
    let some : 0 < n = first_pos n (up f) above in
    rw (ne_eqb n 0 (λ z. omega arith))
    (ap (λ (s : Bool). round binary32 (unlike s t) (m * up e * down f) (n * up f * down e)) v.0
    ∙ ap (λ (t : Bool). round binary32 (unlike false t) (m * up e * down f) (n * up f * down e)) w.0
    ∙ round_same binary32 false (m * up e * down f) (n * up f * down e) a (c * d) (mul-pos above (down_pos e)) (mul-pos p q)
    (mul-mul-mul_comm (m * up e) (down f) c d
    ∙ ap (λ (z : ℕ). z * (down f * d)) v.1
    ∙ ap (λ (z : ℕ). a * down e * z) (mul_comm (down f) d ∙ sym divisor)
    ∙ mul_assoc a (down e) (n * up f)
    ∙ ap (λ (z : ℕ). a * z) (mul_comm (down e) (n * up f))))

-- a test and a distance do not change with the scale
same_test : (A B a b C K : ℕ) → 0 < C → 0 < K → A * K ≡ a * C → B * K ≡ b * C → ltb A B ≡ ltb a b
same_test A B a b C K c k p q = go (ltb a b) refl
  where
    go : (t : Bool) → ltb a b ≡ t → ltb A B ≡ t
    go true e =
        let less : a * C < b * C = mul-lt-mul_of_pos_right (ltb-true a b e) c in
        let scaled : A * K < B * K = omega (arith, p, q) in
        lt-ltb A B (lt_of_mul-lt-mul_right K scaled)
    go false e =
        let not_less : b * C ≤ a * C = mul-le-mul_right C (ltb-false a b e) in
        let scaled : B * K ≤ A * K = omega (arith, p, q) in
        le-ltb A B (le_of_mul-le-mul_right scaled k)

pub sub_mul : (m n k : ℕ) → (m - n) * k ≡ m * k - n * k
sub_mul m n k = mul_comm (m - n) k ∙ mul-sub k m n ∙ omega arith

same_distance : (A B a b C K : ℕ) → A * K ≡ a * C → B * K ≡ b * C → (A - B) * K ≡ (a - b) * C
same_distance A B a b C K p q = rw (sub_mul A B K, sub_mul a b C, p, q)

-- the fraction m / d, at the denominator d * e
at_common : (m d e a c : ℕ) → m * c ≡ a * d → m * e * c ≡ a * (d * e)
at_common m d e a c h = mul_right_comm m e c ∙ ap (λ (z : ℕ). z * e) h ∙ mul_assoc a d e

-- at a common denominator
pub difference : (x y : Float) (a b c : ℕ) → 0 < c → HasValue x false a c → HasValue y false b c
    → sub binary32 x y ≡ cond (ltb a b) (round binary32 true (b - a) c) (round binary32 false (a - b) c)
unfolding sub sum
difference nan y a b c k v w = absurd v
difference (inf t) y a b c k v w = absurd v
difference (fin s m e) nan a b c k v w = absurd w
difference (fin s m e) (inf t) a b c k v w = absurd w
difference (fin s m e) (fin t n f) a b c k v w =
    let A = m * up e * down f in
    let B = n * up f * down e in
    let C = down e * down f in
    let p : A * c ≡ a * C = at_common (m * up e) (down e) (down f) a c v.1 in
    let q : B * c ≡ b * C = at_common (n * up f) (down f) (down e) b c w.1 ∙ ap (λ (z : ℕ). b * z) (mul_comm (down f) (down e)) in
    let above : 0 < C = mul-pos (down_pos e) (down_pos f) in
    ap (λ (s : Bool). sum binary32 s A (not t) B C) v.0
    ∙ ap (λ (t : Bool). sum binary32 false A (not t) B C) w.0
    ∙ ap (λ (u : Bool). cond u (round binary32 true (B - A) C) (round binary32 false (A - B) C)) (same_test A B a b C c above k p q)
    ∙ ap (λ (z : Float). cond (ltb a b) z (round binary32 false (A - B) C)) (round_same binary32 true (B - A) C (b - a) c above k (same_distance B A b a C c q p))
    ∙ ap (λ (z : Float). cond (ltb a b) (round binary32 true (b - a) c) z) (round_same binary32 false (A - B) C (a - b) c above k (same_distance A B a b C c p q))

-- an order too does not change with the scale
same_order : (s t : Bool) (A B a b C K : ℕ) → 0 < C → 0 < K → A * K ≡ a * C → B * K ≡ b * C → below s A t B ≡ below s a t b
same_order false false A B a b C K c k p q = same_test A B a b C K c k p q
same_order false true A B a b C K c k p q = refl
same_order true false A B a b C K c k p q = same_test 0 (A + B) 0 (a + b) C K c k (omega arith) (omega (arith, p, q))
same_order true true A B a b C K c k p q = same_test B A b a C K c k q p

pub lt_of_values : (x y : Float) (s t : Bool) (a b c : ℕ) → 0 < c → HasValue x s a c → HasValue y t b c → T (below s a t b) → T (lt x y)
unfolding lt
lt_of_values nan y s t a b c k v w h = absurd v
lt_of_values (inf u) y s t a b c k v w h = absurd v
lt_of_values (fin u m e) nan s t a b c k v w h = absurd w
lt_of_values (fin u m e) (inf z) s t a b c k v w h = absurd w
lt_of_values (fin u m e) (fin z n f) s t a b c k v w h =
    rw (
      v.0,
      w.0,
      same_order s t (m * up e * down f) (n * up f * down e) a b (down e * down f) c (mul-pos (down_pos e) (down_pos f)) k (at_common (m * up e) (down e) (down f) a c v.1)
          (at_common (n * up f) (down f) (down e) b c w.1 ∙ ap (λ (z : ℕ). b * z) (mul_comm (down f) (down e))),
    )
    h
