-- Laws of lists made in order, part by part and value by value.
use Prim.Native.Nat.{ℕ, zero, suc, ◌+◌, ◌*◌, ◌-◌, ◌<◌, ◌≤◌}
use lib.Arith.{digits_lt}
use lib.ListN.{length, take, drop, get_or, set, replicate, length-append, length-take, length-drop, length-set, get_or-append, replicate-append-replicate}
use lib.Seq.{take_at, drop_at, drop-drop, drop-length, set_at, drop-cons, get_or-append-add}
use mathlib.Core.List.{List, [], ◌∷◌, ◌++◌, append_assoc, append-nil}
use mathlib.Core.Logic.{⊎_elim}
use mathlib.Core.Path.{◌≡◌, refl, ap, sym, ◌∙◌}
use native.Mathlib.Nat.{zero-mul, suc-mul, mul-one, add-zero, add-sub_cancel_left, not-suc-le-zero, le_of_suc-le-suc, eq-or-lt_of_le}
use native.Mathlib.Numerals.{add-one}
use native.Mathlib.Omega.{arith}
use Rattle.lent.specs.Lists.{parts, values}

-- ---- parts of s elements each
pub length_parts : (n s : ℕ) (f : ℕ → List ℕ) → ((k : ℕ) → length (f k) ≡ s) → length (parts n f) ≡ n * s
unfolding parts
length_parts zero s f h = sym (zero-mul s)
length_parts (suc n) s f h = length-append (parts n f) (f n) ∙ simp (length_parts n s f h, h n, suc-mul)

pub parts_same : (n : ℕ) (f g : ℕ → List ℕ) → ((k : ℕ) → k < n → f k ≡ g k) → parts n f ≡ parts n g
unfolding parts
parts_same zero f g h = refl
parts_same (suc n) f g h = rw (parts_same n f g (λ k l. h k (omega arith)), h n (omega arith))

pub parts_at : (n s : ℕ) (f : ℕ → List ℕ) (k j : ℕ) → ((q : ℕ) → length (f q) ≡ s) → k < n → j < s → get_or (parts n f) (k * s + j) 0 ≡ get_or (f k) j 0
unfolding parts
parts_at zero s f k j h l r = absurd (not-suc-le-zero l)
parts_at (suc n) s f k j h l r =
    let long : length (parts n f) ≡ n * s = length_parts n s f h in
    ⊎_elim
    (λ e. rw e (rw long at (get_or-append-add (parts n f) (f n) j 0)))
    (λ m. get_or-append (parts n f) (f n) 0 (k * s + j) (rw long (digits_lt m r)) ∙ parts_at n s f k j h m r)
    (eq-or-lt_of_le (le_of_suc-le-suc l))

-- the next part is put in its place
parts_store : (f : ℕ → List ℕ) (d out : List ℕ) (n s at : ℕ) → ((k : ℕ) → length (f k) ≡ s) → at ≡ n * s → out ≡ parts n f ++ drop at d
    → take at out ++ (f n ++ drop (at + s - at) (drop at out)) ≡ parts (n + 1) f ++ drop (at + s) d
unfolding parts
parts_store f d out n s at h e o =
    let long : length (parts n f) ≡ at = length_parts n s f h ∙ sym e in
    rw (o, take_at (parts n f) (drop at d) at long, drop_at (parts n f) (drop at d) at long, add-sub_cancel_left, drop-drop, add-one)
    (sym (append_assoc (parts n f) (f n) (drop (at + s) d)))

-- ---- a buffer d that takes parts of s elements: k of them are there, up to the place at
abbrev pub Taken : (ℕ → List ℕ) → (s : ℕ) (d out : List ℕ) (k at : ℕ) → Type 0
Taken f s d out k at = (at ≡ k * s) × (length out ≡ length d) × (out ≡ parts k f ++ drop at d)

pub length_lent : (s at : ℕ) (out : List ℕ) → at + s ≤ length out → length (take (at + s - at) (drop at out)) ≡ s
length_lent s at out h = simp (length-take, length-drop) (omega arith)

pub taken_start : (f : ℕ → List ℕ) (s : ℕ) (d : List ℕ) → Taken f s d d 0 0
unfolding parts
taken_start f s d = (sym (zero-mul s), refl, refl)

pub taken_next : (f : ℕ → List ℕ) (s : ℕ) (d out p after : List ℕ) (k at : ℕ) → Taken f s d out k at → ((q : ℕ) → length (f q) ≡ s) → p ≡ f k
    → after ≡ take at out ++ (p ++ drop (at + s - at) (drop at out)) → length after ≡ length out → Taken f s d after (k + 1) (at + s)
taken_next f s d out p after k at t h e l m =
    (simp (t.0, add-one, suc-mul), m ∙ t.1, l ∙ rw e (parts_store f d out k s at h t.0 t.2))

pub taken_whole : (f : ℕ → List ℕ) (s : ℕ) (d out : List ℕ) (k n at : ℕ) → Taken f s d out k at → k ≡ n → length d ≡ n * s → out ≡ parts n f
unfolding parts
taken_whole f s d out k n at t e l =
    let whole : at ≡ length d = t.0 ∙ ap (λ (m : ℕ). m * s) e ∙ sym l in
    t.2 ∙ rw (whole, drop-length, append-nil, e)

-- ---- values
one : (f : ℕ → ℕ) (k : ℕ) → length (f k ∷ []) ≡ 1
one f k = refl

pub length_values : (n : ℕ) (f : ℕ → ℕ) → length (values n f) ≡ n
unfolding values
length_values n f = length_parts n 1 _ (one f) ∙ mul-one n

pub values_same : (n : ℕ) (f g : ℕ → ℕ) → ((k : ℕ) → k < n → f k ≡ g k) → values n f ≡ values n g
unfolding values
values_same n f g h = parts_same n _ _ (λ k l. ap (λ (v : ℕ). v ∷ []) (h k l))

pub values_at : (n : ℕ) (f : ℕ → ℕ) (k : ℕ) → k < n → get_or (values n f) k 0 ≡ f k
unfolding values
values_at n f k h = simp (mul-one, add-zero) at (parts_at n 1 (λ q. f q ∷ []) k 0 (one f) h (omega arith))

-- a store of the next value
values_store : (f : ℕ → ℕ) (d out : List ℕ) (k v : ℕ) → k < length d → out ≡ values k f ++ drop k d → v ≡ f k → set out k v ≡ values (k + 1) f ++ drop (k + 1) d
unfolding values parts
values_store f d out k v h o e =
    rw (o, e, add-one, drop-cons d k 0)
    (set_at (values k f) (get_or d k 0) (drop (suc k) d) (f k) k (length_values k f) ∙ sym (append_assoc (values k f) (f k ∷ []) (drop (suc k) d)))

-- a buffer d that takes values: k of them are there
abbrev pub Filled : (ℕ → ℕ) → (d out : List ℕ) (k : ℕ) → Type 0
Filled f d out k = (k ≤ length d) × (length out ≡ length d) × (out ≡ values k f ++ drop k d)

pub filled_start : (f : ℕ → ℕ) (d : List ℕ) → Filled f d d 0
unfolding values parts
filled_start f d = (omega arith, refl, refl)

pub filled_next : (f : ℕ → ℕ) (d out : List ℕ) (k v : ℕ) → Filled f d out k → k < length out → v ≡ f k → Filled f d (set out k v) (k + 1)
filled_next f d out k v t h e =
    (omega arith, simp length-set t.1, values_store f d out k v (omega arith) t.2 e)

pub filled_whole : (f : ℕ → ℕ) (d out : List ℕ) (k n : ℕ) → Filled f d out k → length out ≤ k → n ≡ length d → out ≡ values n f
filled_whole f d out k n t h e =
    let whole : k ≡ length d = omega arith in
    t.2 ∙ rw (whole, drop-length, append-nil, e)

-- ---- one value throughout
pub parts_replicate : (n s a : ℕ) → parts n (λ k. replicate s a) ≡ replicate (n * s) a
unfolding parts
parts_replicate zero s a = rw zero-mul
parts_replicate (suc n) s a = rw (suc-mul, parts_replicate n s a) (replicate-append-replicate (n * s) s a)

pub values_replicate : (n a : ℕ) → values n (λ k. a) ≡ replicate n a
unfolding values
values_replicate n a = parts_replicate n 1 a ∙ rw mul-one
