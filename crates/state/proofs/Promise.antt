-- Laws of the promises: what the tests of a call tell, and what each answer leaves.
use Prim.Native.Nat.{ℕ, ◌≤◌, ◌<◌}
use Rattle.std.proofs.lemmas.Slice.{take-put_mid, drop-put_mid, drop-append-drop}
use Rattle.std.specs.Prelude.{Ok, Err}
use Rattle.std.specs.Str.{bytes_eq}
use borrow.Author.Tests.{lt-ltb, le-ltb, eq-eqb, ne_eqb}
use borrow.Rule.Slice.PartMut.{put_mid}
use lib.ListN.{length, take, drop, length-append, length-drop}
use lib.Seq.{take_all, take_at, drop-drop}
use mathlib.Core.Bool.{Bool, true, false, ◌&&◌}
use mathlib.Core.List.{List, ◌++◌, append_assoc}
use mathlib.Core.Path.{◌≡◌, refl, sym, ap, ◌∙◌}
use native.Mathlib.Omega.{arith}
use Rattle.condition.specs.First.{first_of}
use Rattle.controller.specs.Part.{in_range, with}
use Rattle.controller.specs.declared.Controller.{Controller}
use Rattle.controller.specs.declared.registers.Registers.{Registers}
use Rattle.lent.proofs.Left.{over_by, refused_keeps, done_writes}
use Rattle.lent.specs.Buffer.{over}
use Rattle.refusal.specs.declared.Refusal.TheVariants.{ShortBuffer, NotInRange}
use Rattle.state.specs.State.{registers_put, put_of}
use Rattle.state.specs.Taken.{registers_read, read_off, put_again, is_state, taken_of, answer_for, Putting, Taking}

-- ---- put

pub put_refused : (c : Controller) (out : List ℕ) → length out < 159 → Putting c out (Err ShortBuffer) out
unfolding answer_for first_of
put_refused c out h =
    let number : 6 ≡ answer_for (length out) = simp (lt-ltb _ _ h) in
    record { number = number; buffer = refused_keeps _ _ _ (rw (← number) refl) }

-- three parts, each copied behind the one before
pub three_put : (d m t out : List ℕ) → 159 ≤ length out → length d ≡ 80 → length m ≡ 64 → length t ≡ 15
    → put_mid 144 15 (put_mid 80 64 (d ++ drop 80 out) m) t ≡ over (d ++ (m ++ t)) out
three_put d m t out h hd hm ht =
    let one = d ++ drop 80 out in
    let two = put_mid 80 64 one m in
    let room : 80 ≤ length one = omega (arith, length-append d (drop 80 out)) in
    let front : take 144 two ≡ d ++ m = take-put_mid 80 64 one m 144 (omega arith) room ∙ ap (λ (l : List ℕ). l ++ m) (take_at d (drop 80 out) 80 hd) in
    let rest : drop 15 (drop 144 two) ≡ drop 159 out = drop-drop 15 144 two ∙ drop-put_mid 80 64 one m 159 (omega arith) room hm ∙ drop-append-drop 80 out d 159 (omega arith) hd in
    let size : length (d ++ (m ++ t)) ≡ 159 = simp length-append (omega arith) in
    simp (front, rest, over_by (d ++ (m ++ t)) out 159 size, append_assoc)

pub put_done : (c : Controller) (out left t : List ℕ) → 159 ≤ length out → t ≡ registers_put c.registers
    → left ≡ over (c.display ++ (c.character ++ t)) out → Putting c out (Ok tt) left
unfolding answer_for first_of put_of
put_done c out left t h et e =
    let number : 0 ≡ answer_for (length out) = simp (le-ltb _ _ h) in
    record { number = number; buffer = e ∙ rw et (done_writes (answer_for (length out)) (put_of c) out (sym number)) }

-- ---- take

-- what the tests tell
pub state_told : (bytes again : List ℕ) (registers : Registers) (same ranged : Bool) → length bytes ≡ 159
    → registers ≡ registers_read bytes → again ≡ registers_put registers
    → same ≡ bytes_eq (take 15 (drop 144 bytes)) again → ranged ≡ in_range registers → same && ranged ≡ is_state bytes
unfolding is_state put_again
state_told bytes again registers same ranged l er ea s t =
    let whole : take 15 (drop 144 bytes) ≡ drop 144 bytes = take_all 15 (drop 144 bytes) (omega (arith, length-drop 144 bytes)) in
    rw (eq-eqb (length bytes) 159 l, ← er, ← ea, ← whole, t) (ap (λ (b : Bool). b && in_range registers) s)

pub other_length : (bytes : List ℕ) → (length bytes ≡ 159 → ⊥) → is_state bytes ≡ false
unfolding is_state
other_length bytes h = simp (ne_eqb _ _ h)

-- what each answer tells
module _ (bytes : List ℕ) where
  pub take_refused : is_state bytes ≡ false → Taking bytes (Err NotInRange)
  unfolding taken_of
  take_refused e = rw e refl

  pub take_done : (c : Controller) (registers : Registers) → is_state bytes ≡ true → registers ≡ registers_read bytes → c ≡ with (take 80 bytes) (take 64 (drop 80 bytes)) registers
      → Taking bytes (Ok c)
  unfolding taken_of read_off
  take_done c registers e er p = rw (e, ← er) (ap Ok p)
