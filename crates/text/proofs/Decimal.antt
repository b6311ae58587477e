-- Laws of decimal digits.
use Prim.Native.Char.{code}
use Prim.Native.Nat.{ℕ, zero, suc, ◌+◌, ◌*◌, ◌-◌, ◌/◌, ◌%◌, ◌^◌, ◌≤◌, ◌<◌}
use borrow.Author.Tests.{ltb-true, ltb-false, lt-ltb, le-ltb}
use lib.Dec.{ltb}
use lib.ListN.{length, set, length-append, length-set}
use mathlib.Core.Bool.{Bool, true, false, cond}
use mathlib.Core.List.{List, [], ◌∷◌, ◌++◌}
use mathlib.Core.Path.{◌≡◌, refl, sym, ap, ◌∙◌}
use native.Mathlib.Nat.{one-le-pow}
use native.Mathlib.Omega.{arith}
use Rattle.lent.proofs.Placed.{put_one, puts_one, put_before}
use Rattle.lent.specs.Put.{put_at, Puts}
use Rattle.text.specs.Text.{digit_of, digits_of, decimal_of, meant_by}
use Rattle.text.specs.Theorems.{DecimalRule, DecimalReadsBack}

-- a number below ten, or another
by_size : (P : ℕ → Type 0) (n : ℕ) → (n < 10 → P n) → (10 ≤ n → P n) → P n
by_size P n small large = go (ltb n 10) refl
  where
    go : (b : Bool) → ltb n 10 ≡ b → P n
    go true e = small (ltb-true _ _ e)
    go false e = large (ltb-false _ _ e)

-- how many digits are allowed does not matter where they are enough
enough : (k m n : ℕ) → n < k → n < m → digits_of k n ≡ digits_of m n
unfolding digits_of
enough zero m n h h' = absurd (omega arith)
enough (suc k) zero n h h' = absurd (omega arith)
enough (suc k) (suc m) n h h' =
    by_size (λ i. digits_of (suc k) i ≡ digits_of (suc m) i) n
    (λ small. simp (lt-ltb _ _ small))
    (λ large. simp (le-ltb _ _ large, enough k m (n / 10) (omega arith) (omega arith)))

decimal_small : (n : ℕ) → n < 10 → decimal_of n ≡ digit_of n ∷ []
unfolding decimal_of digits_of
decimal_small n h = simp (lt-ltb _ _ h)

decimal_large : (n : ℕ) → 10 ≤ n → decimal_of n ≡ decimal_of (n / 10) ++ (digit_of (n % 10) ∷ [])
unfolding decimal_of digits_of
decimal_large n h = simp (le-ltb _ _ h, enough n (suc (n / 10)) (n / 10) (omega arith) (omega arith))

-- ---- how many digits there are

pub one_digit : (n : ℕ) → n < 10 → length (decimal_of n) ≡ 1
one_digit n h = ap length (decimal_small n h)

pub more_digits : (n : ℕ) → 10 ≤ n → length (decimal_of n) ≡ length (decimal_of (n / 10)) + 1
more_digits n h = ap length (decimal_large n h) ∙ length-append (decimal_of (n / 10)) (digit_of (n % 10) ∷ [])

pub digits_below : (k n : ℕ) → n < 10 ^ suc k → length (decimal_of n) ≤ suc k
digits_below zero n h = omega (arith, one_digit n h)
digits_below (suc k) n h =
    by_size (λ m. length (decimal_of m) ≤ suc (suc k)) n
    (λ small. omega (arith, one_digit n small))
    (λ large. omega (arith, more_digits n large, digits_below k (n / 10) (omega arith)))

pub digits_from : (k n : ℕ) → 10 ^ k ≤ n → suc k ≤ length (decimal_of n)
digits_from zero n h =
    by_size (λ m. 1 ≤ length (decimal_of m)) n
    (λ small. omega (arith, one_digit n small))
    (λ large. omega (arith, more_digits n large))
digits_from (suc k) n h =
    by_size (λ m. suc (suc k) ≤ length (decimal_of m)) n
    (λ small. absurd (omega (arith, one-le-pow k 10 (omega arith))))
    (λ large. omega (arith, more_digits n large, digits_from k (n / 10) (omega arith)))

digits_are : (k n : ℕ) → 10 ^ k ≤ n → n < 10 * 10 ^ k → k + 1 ≡ length (decimal_of n)
digits_are k n h h' =
    let within : n < 10 ^ suc k = omega arith in
    omega (arith, digits_below k n within, digits_from k n h)

pub two_digits : (n : ℕ) → 10 ≤ n → n < 100 → length (decimal_of n) ≡ 2
two_digits n h h' = sym (digits_are 1 n h h')

pub three_digits : (n : ℕ) → 100 ≤ n → n < 1000 → length (decimal_of n) ≡ 3
three_digits n h h' = sym (digits_are 2 n h h')

pub four_digits : (n : ℕ) → 1000 ≤ n → n < 10000 → length (decimal_of n) ≡ 4
four_digits n h h' = sym (digits_are 3 n h h')

pub five_digits : (n : ℕ) → 10000 ≤ n → n < 100000 → length (decimal_of n) ≡ 5
five_digits n h h' = sym (digits_are 4 n h h')

-- ---- digits put from the last to the first

-- a number below ten as a whole
pub lone_digit : (n place : ℕ) (out : List ℕ) → n < 10 → place < length out → Puts (decimal_of n) place out (place + 1) (set out place (digit_of (n % 10)))
lone_digit n place out small room =
    let own : n % 10 ≡ n = omega arith in
    rw (own, decimal_small n small) (puts_one place (digit_of n) out room)

-- what is missing of a number's digits: those of the rest, up to `last`
pub record Missing (n place : ℕ) (out : List ℕ) (last rest : ℕ) (now : List ℕ) : Type 0 where
  pub within : place ≤ last
  pub room : last ≤ length now
  pub counted : place < last → last ≡ place + length (decimal_of rest)
  pub some : place < last → put_at place (decimal_of rest) now ≡ put_at place (decimal_of n) out
  pub none : last ≤ place → now ≡ put_at place (decimal_of n) out

module _ (n place : ℕ) (out : List ℕ) (last rest : ℕ) (now : List ℕ) (missing : Missing n place out last rest now) (more : place < last) where
  first_digit : rest < 10 → Missing n place out (last - 1) (rest / 10) (set now (last - 1) (digit_of (rest % 10)))
  first_digit small =
      let own : rest % 10 ≡ rest = omega arith in
      let here : last - 1 ≡ place = omega (arith, missing.counted more, one_digit rest small) in
      let room : place < length now = omega (arith, missing.room) in
      let put : set now (last - 1) (digit_of (rest % 10)) ≡ put_at place (decimal_of n) out = rw (here, own) (put_one place (digit_of rest) now room ∙ rw (decimal_small rest small) at missing.some more) in
      record {
        within = omega arith;
        room = rw (length-set now (last - 1) (digit_of (rest % 10))) (omega (arith, missing.room));
        counted = λ l. absurd (omega arith);
        some = λ l. absurd (omega arith);
        none = λ l. put;
      }

  next_digit : 10 ≤ rest → Missing n place out (last - 1) (rest / 10) (set now (last - 1) (digit_of (rest % 10)))
  next_digit large =
      let here : last - 1 ≡ place + length (decimal_of (rest / 10)) = omega (arith, missing.counted more, more_digits rest large) in
      let room : place + length (decimal_of (rest / 10)) < length now = omega (arith, missing.room) in
      let put : put_at place (decimal_of (rest / 10)) (set now (last - 1) (digit_of (rest % 10))) ≡ put_at place (decimal_of n) out =
      rw here (put_before place (decimal_of (rest / 10)) (digit_of (rest % 10)) now room ∙ rw (decimal_large rest large) at missing.some more) in
      record {
        within = omega arith;
        room = rw (length-set now (last - 1) (digit_of (rest % 10))) (omega (arith, missing.room));
        counted = λ l. here;
        some = λ l. put;
        none = λ l. absurd (omega (arith, digits_from 0 (rest / 10)));
      }

  pub missing_next : Missing n place out (last - 1) (rest / 10) (set now (last - 1) (digit_of (rest % 10)))
  missing_next = by_size (λ m. m ≡ rest → Missing n place out (last - 1) (rest / 10) (set now (last - 1) (digit_of (rest % 10)))) rest (λ small e. first_digit small) (λ large e. next_digit large) refl

-- ---- what the digits say

pub decimal_rule : DecimalRule
decimal_rule n =
    by_size (λ m. decimal_of m ≡ cond (ltb m 10) (digit_of m ∷ []) (decimal_of (m / 10) ++ (digit_of (m % 10) ∷ []))) n
    (λ small. simp (lt-ltb _ _ small) (decimal_small n small))
    (λ large. simp (le-ltb _ _ large) (decimal_large n large))

meant_last : (before digit : ℕ) (digits : List ℕ) → meant_by before (digits ++ (digit_of digit ∷ [])) ≡ meant_by before digits * 10 + digit
meant_last before digit [] = omega arith
meant_last before digit (first ∷ digits) = meant_last (before * 10 + (first - code "0")) digit digits

reads_back : (k n : ℕ) → n < k → meant_by 0 (decimal_of n) ≡ n
reads_back zero n h = absurd (omega arith)
reads_back (suc k) n h =
    by_size (λ m. meant_by 0 (decimal_of m) ≡ m) n
    (λ small. rw (decimal_small n small) (omega arith))
    (λ large. rw (decimal_large n large) (meant_last 0 (n % 10) (decimal_of (n / 10)) ∙ omega (arith, reads_back k (n / 10) (omega arith))))

pub decimal_reads_back : DecimalReadsBack
decimal_reads_back n = reads_back (suc n) n (omega arith)
