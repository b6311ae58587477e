-- Laws of columns: a buffer of rows of s values each, in which the value d of row q stands at q * s + d.
use Prim.Native.Nat.{ℕ, zero, suc, ◌+◌, ◌*◌, ◌/◌, ◌%◌, ◌<◌, ◌≤◌}
use borrow.Author.Count.{below_more}
use lib.Arith.{digits_lt, digits_div, digits_mod}
use lib.ListN.{length, get_or, set, length-set}
use lib.Seq.{get_or-set_same, get_or-set_other, ext_get_or}
use mathlib.Core.List.{List}
use mathlib.Core.Path.{◌≡◌, ap, sym, ◌∙◌}
use native.Mathlib.Nat.{mul-zero, zero-lt-suc, mod-lt, div-add-mod', div-lt_iff_lt-mul}
use native.Mathlib.Omega.{arith}
use Rattle.lent.proofs.Lists.{length_parts, length_values, parts_at, values_at}
use Rattle.lent.specs.Lists.{values, parts}

same_row : (s q d k e : ℕ) → d < s → e < s → q * s + d ≡ k * s + e → q ≡ k
same_row s q d k e hd he h = sym (digits_div q hd) ∙ ap (λ (n : ℕ). n / s) h ∙ digits_div k he

same_value : (s q d k e : ℕ) → d < s → e < s → q * s + d ≡ k * s + e → d ≡ e
same_value s q d k e hd he h = sym (digits_mod q hd) ∙ ap (λ (n : ℕ). n % s) h ∙ digits_mod k he

-- ---- a buffer d that takes values in the column e: k of them are there
pub record Filling (f : ℕ → ℕ) (s e : ℕ) (d out : List ℕ) (k : ℕ) : Type 0 where
  pub long : length out ≡ length d
  pub drawn : (q : ℕ) → q < k → get_or out (q * s + e) 0 ≡ f q
  pub waiting : (q : ℕ) → k ≤ q → get_or out (q * s + e) 0 ≡ get_or d (q * s + e) 0
  pub kept : (q j : ℕ) → j < s → (j ≡ e → ⊥) → get_or out (q * s + j) 0 ≡ get_or d (q * s + j) 0

module _ (f : ℕ → ℕ) (rows s e : ℕ) (d out : List ℕ) (k : ℕ) (t : Filling f s e d out k) (h : k < rows) (he : e < s) (l : length d ≡ rows * s) where
  pub column_room : k * s + e < length out
  column_room = rw (t.long, l) (digits_lt h he)

  pub column_next : (v : ℕ) → v ≡ f k → Filling f s e d (set out (k * s + e) v) (k + 1)
  column_next v m =
      record {
        long = simp length-set t.long;
        drawn =
            below_more _ _
            (λ q hq. get_or-set_other out (k * s + e) (q * s + e) v 0 (λ p. let w : q ≡ k = same_row s q e k e he he p in omega arith) ∙ t.drawn q hq)
            (get_or-set_same out (k * s + e) v 0 column_room ∙ m);
        waiting = λ q l. get_or-set_other out (k * s + e) (q * s + e) v 0 (λ p. let w : q ≡ k = same_row s q e k e he he p in omega arith) ∙ t.waiting q (omega arith);
        kept = λ q j hj n. get_or-set_other out (k * s + e) (q * s + j) v 0 (λ p. n (same_value s q j k e hj he p)) ∙ t.kept q j hj n;
      }

-- ---- a buffer d that takes columns: k of them are there
pub record Columns (f : ℕ → ℕ → ℕ) (rows s : ℕ) (d out : List ℕ) (k : ℕ) : Type 0 where
  pub long : length out ≡ length d
  pub drawn : (j : ℕ) → j < k → (q : ℕ) → q < rows → get_or out (q * s + j) 0 ≡ f j q

some : (n s i : ℕ) → i < n * s → 0 < s
some n zero i h = let e : n * 0 ≡ 0 = mul-zero n in omega arith
some n (suc s) i h = zero-lt-suc s

-- all columns are all rows
pub columns_rows : (f : ℕ → ℕ → ℕ) (rows s : ℕ) (out : List ℕ) → length out ≡ rows * s → ((j : ℕ) → j < s → (q : ℕ) → q < rows → get_or out (q * s + j) 0 ≡ f j q)
    → out ≡ parts rows (λ q. values s (λ j. f j q))
columns_rows f rows s out long drawn =
    let row_of : ℕ → List ℕ = λ q. values s (λ j. f j q) in
    ext_get_or 0 _ _
    (long ∙ sym (length_parts rows s row_of (λ q. length_values s _)))
    (λ i hi.
    let inside : i < rows * s = rw long at hi in
    let positive : 0 < s = some rows s i inside in
    let row : i / s < rows = (div-lt_iff_lt-mul positive).1 inside in
    let value : i % s < s = mod-lt i positive in
    ap (λ (n : ℕ). get_or out n 0) (sym (div-add-mod' i s))
    ∙ drawn (i % s) value (i / s) row
    ∙ sym (values_at s (λ j. f j (i / s)) (i % s) value)
    ∙ sym (parts_at rows s row_of (i / s) (i % s) (λ q. length_values s _) row value)
    ∙ ap (λ (n : ℕ). get_or (parts rows row_of) n 0) (div-add-mod' i s))
