-- Laws that callers cite: what is known of bytes that are taken, and the length of bytes that are put.
use Prim.Native.Nat.{ℕ, ◌≤◌}
use Rattle.std.proofs.lemmas.Option.{cond_some}
use Rattle.std.proofs.lemmas.Slice.Eq.{bytes_eq-Decides}
use Rattle.std.specs.Prelude.{Some}
use lib.Dec.{T, eqb→eq, eqb}
use lib.ListN.{length, take, drop, length-append, length-take, length-drop, take-append-drop, drop_of_length-le}
use lib.Seq.{drop-drop}
use mathlib.Core.Bool.{Bool, ◌&&◌}
use mathlib.Core.List.{List, ◌++◌, append-nil}
use mathlib.Core.Path.{◌≡◌, sym, ap, ◌∙◌, subst}
use native.Mathlib.Omega.{arith}
use Rattle.condition.proofs.Tests.{and_left, and_right, is_true, holds}
use Rattle.controller.specs.Part.{in_range}
use Rattle.controller.specs.declared.Controller.{Controller}
use Rattle.lent.specs.Buffer.{over}
use Rattle.state.specs.State.{state_bytes, registers_put, put_of}
use Rattle.state.specs.Taken.{registers_read, put_again, read_off, is_state, taken_of}
use Rattle.state.specs.Theorems.{Held}

-- ---- bytes that are put

pub put_length : (c : Controller) → length c.display ≡ 80 → length c.character ≡ 64 → length (put_of c) ≡ 159
unfolding put_of registers_put
put_length c hd hm = simp length-append (omega arith)

-- put into a buffer of their length
pub put_whole : (c : Controller) (out : List ℕ) → length (put_of c) ≡ length out → over (put_of c) out ≡ put_of c
unfolding over
put_whole c out e = let rest : length out ≤ length (put_of c) = omega arith in rw (drop_of_length-le out {i = length (put_of c)} rest, append-nil)

-- ---- bytes that are taken

-- what the test tells
module _ (bytes : List ℕ) (t : T (is_state bytes)) where
  abbrev size_test : Bool
  size_test = eqb (length bytes) state_bytes

  abbrev range_test : Bool
  range_test = in_range (registers_read bytes)

  state_length : length bytes ≡ 159
  unfolding is_state
  state_length = eqb→eq (length bytes) state_bytes (and_left size_test (put_again bytes && range_test) t)

  state_registers : drop 144 bytes ≡ registers_put (registers_read bytes)
  unfolding is_state put_again
  state_registers =
      let same : T (put_again bytes) = and_left (put_again bytes) range_test (and_right size_test (put_again bytes && range_test) t) in
      (bytes_eq-Decides (drop 144 bytes) (registers_put (registers_read bytes))).0 (is_true (put_again bytes) same)

  pub state_held : Held bytes (read_off bytes)
  unfolding is_state read_off put_of
  state_held =
      let size : length bytes ≡ 159 = state_length in
      let behind : drop 64 (drop 80 bytes) ≡ registers_put (registers_read bytes) = drop-drop 64 80 bytes ∙ state_registers in
      record {
        sound = record {
          display = simp length-take (omega arith);
          character = simp (length-take, length-drop) (omega arith);
          ranged = and_right (put_again bytes) range_test (and_right size_test (put_again bytes && range_test) t);
        };
        put = sym (take-append-drop 80 bytes)
            ∙ ap (λ (l : List ℕ). take 80 bytes ++ l) (sym (take-append-drop 64 (drop 80 bytes)) ∙ ap (λ (l : List ℕ). take 64 (drop 80 bytes) ++ l) behind);
      }

module _ (bytes : List ℕ) (c : Controller) (e : taken_of bytes ≡ Some c) where
  pub taken_held : Held bytes c
  unfolding taken_of
  taken_held = let p = cond_some (is_state bytes) (read_off bytes) c e in subst (Held bytes) p.1 (state_held bytes (holds (is_state bytes) p.0))

  pub taken_length : length bytes ≡ 159
  unfolding taken_of
  taken_length = state_length bytes (holds (is_state bytes) (cond_some (is_state bytes) (read_off bytes) c e).0)

  pub taken_in_range : T (in_range c.registers)
  taken_in_range = taken_held.sound.ranged

  pub taken_put : bytes ≡ put_of c
  taken_put = taken_held.put
