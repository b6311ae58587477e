-- Laws of bytes put at a place of a buffer.
use Prim.Native.Nat.{ℕ, suc, ◌+◌, ◌≤◌, ◌<◌}
use lib.ListN.{length, take, drop, set, length-append, length-take, length-drop, take-append-drop}
use lib.Seq.{take-append_seam, drop-append-add, drop_at, drop-drop, take-set-le, set_split, length-take-le}
use mathlib.Core.List.{List, [], ◌∷◌, ◌++◌, append_assoc}
use mathlib.Core.Path.{◌≡◌, refl, sym, ap, ◌∙◌}
use native.Mathlib.Numerals.{add-one}
use native.Mathlib.Omega.{arith}
use Rattle.lent.specs.Put.{put_at, Puts}

put_length : (place : ℕ) (new out : List ℕ) → place + length new ≤ length out → length (put_at place new out) ≡ length out
unfolding put_at
put_length place new out h = simp (length-append, length-take, length-drop) (omega arith)

pub put_none : (place : ℕ) (out : List ℕ) → put_at place [] out ≡ out
unfolding put_at
put_none place out = let same : place + 0 ≡ place = omega arith in rw same (take-append-drop place out)

-- one byte
pub put_one : (place byte : ℕ) (out : List ℕ) → place < length out → set out place byte ≡ put_at place (byte ∷ []) out
unfolding put_at
put_one place byte out h = rw add-one (set_split out place byte h)

pub puts_one : (place byte : ℕ) (out : List ℕ) → place < length out → Puts (byte ∷ []) place out (place + 1) (set out place byte)
puts_one place byte out h = record { next = refl; buffer = put_one place byte out h }

-- bytes behind those just put
behind : (front rest next : List ℕ) (place : ℕ) → length front ≡ place → take place (front ++ rest) ++ (next ++ drop (place + length next) (front ++ rest)) ≡ front ++ (next ++ drop (length next) rest)
behind front rest next place e = rw (← e, take-append_seam, drop-append-add)

put_more : (place : ℕ) (first next out : List ℕ) → place ≤ length out → put_at (place + length first) next (put_at place first out) ≡ put_at place (first ++ next) out
unfolding put_at
put_more place first next out h =
    let front : length (take place out ++ first) ≡ place + length first = length-append (take place out) first ∙ ap (λ (n : ℕ). n + length first) (length-take-le place out h) in
    let all : place + length first + length next ≡ place + length (first ++ next) = simp length-append (omega arith) in
    rw (← append_assoc (take place out) first (drop (place + length first) out)) (behind (take place out ++ first) (drop (place + length first) out) next (place + length first) front
    ∙ rw (drop-drop, all, append_assoc, append_assoc))

pub puts_then : (place next end : ℕ) (first second out mid left : List ℕ) → place ≤ length out → Puts first place out next mid → Puts second next mid end left → Puts (first ++ second) place out end left
puts_then place next end first second out mid left h p q =
    record {
      next = omega (arith, p.next, q.next, length-append first second);
      buffer = q.buffer ∙ rw (p.buffer, p.next) (put_more place first second out h);
    }

-- ---- a text, part after part

-- what is still to be put: the rest of a text, from a place of the buffer as it is now
pub record Awaits (rest : List ℕ) (next : ℕ) (now : List ℕ) (text : List ℕ) (place : ℕ) (out : List ℕ) : Type 0 where
  pub end : next + length rest ≡ place + length text
  pub buffer : put_at next rest now ≡ put_at place text out

module _ (text : List ℕ) (place : ℕ) (out : List ℕ) where
  pub awaits_all : Awaits text place out text place out
  awaits_all = record { end = refl; buffer = refl }

  pub awaits_none : (next : ℕ) (now : List ℕ) → Awaits [] next now text place out → Puts text place out next now
  awaits_none next now a = record { next = omega (arith, a.end); buffer = sym (put_none next now) ∙ a.buffer }

  module _ (first rest : List ℕ) (next : ℕ) (now : List ℕ) (a : Awaits (first ++ rest) next now text place out) where
    pub awaits_room : place + length text ≤ length now → next + length first ≤ length now
    awaits_room h = omega (arith, a.end, length-append first rest)

    pub awaits_more : next ≤ length now → (then : ℕ) (left : List ℕ) → Puts first next now then left → Awaits rest then left text place out
    awaits_more h then left p =
        record {
          end = omega (arith, a.end, p.next, length-append first rest);
          buffer = rw (p.buffer, p.next) (put_more next first rest now h ∙ a.buffer);
        }

-- bytes before one just put
pub put_before : (place : ℕ) (first : List ℕ) (byte : ℕ) (out : List ℕ) → place + length first < length out → put_at place first (set out (place + length first) byte) ≡ put_at place (first ++ (byte ∷ [])) out
unfolding put_at
put_before place first byte out h =
    let left : length (take (place + length first) out) ≡ place + length first = length-take-le _ out (omega arith) in
    let rest : drop (place + length first) (set out (place + length first) byte) ≡ byte ∷ drop (suc (place + length first)) out = rw (set_split out (place + length first) byte) (drop_at (take (place + length first) out) _ _ left) in
    let one : place + length (first ++ (byte ∷ [])) ≡ suc (place + length first) = simp length-append (omega arith) in
    let before : place ≤ place + length first = omega arith in
    rw (rest, one, take-set-le, append_assoc)
