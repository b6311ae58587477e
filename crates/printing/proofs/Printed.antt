-- What each answer leaves, when it is given, and where the text stands.
use Prim.Native.Nat.{ℕ, ◌≤◌, ◌<◌}
use Rattle.std.specs.Prelude.{Result, Ok, Err}
use Rattle.std.specs.Result.{result_unwrap_or}
use borrow.Author.Tests.{le-ltb, lt-ltb}
use lib.ListN.{length, take}
use mathlib.Core.List.{List}
use mathlib.Core.Path.{◌≡◌, sym, ◌∙◌}
use native.Mathlib.Omega.{arith}
use Rattle.condition.proofs.First.{first_given_exactly}
use Rattle.condition.specs.First.{first_of, absent, distinct}
use Rattle.lent.proofs.Front.{front_written}
use Rattle.lent.proofs.Left.{refused_keeps, at_front}
use Rattle.lent.specs.Put.{Puts}
use Rattle.refusal.proofs.Settled.{none_is_done}
use Rattle.refusal.specs.Refusals.{number_of}
use Rattle.refusal.specs.declared.Refusal.{Refusal}
use Rattle.refusal.specs.declared.Refusal.TheVariants.{ShortBuffer}
use Rattle.printing.specs.Answers.{refusals, answer_for, Printed}
use Rattle.printing.specs.Theorems.{PrintedGivenExactly, AtTheFront}

module _ (most : ℕ) (text out : List ℕ) where
  pub printed_short : length out < most → Printed most text out (Err ShortBuffer) out
  unfolding answer_for first_of
  printed_short h =
      let short : answer_for most out ≡ 6 = rw (lt-ltb (length out) most h) in
      record { number = sym short; value = rw short; buffer = refused_keeps _ _ _ (rw short) }

  pub printed_done : (n : ℕ) (left : List ℕ) → most ≤ length out → Puts text 0 out n left → Printed most text out (Ok n) left
  unfolding answer_for first_of
  printed_done n left h p =
      let done : answer_for most out ≡ 0 = rw (le-ltb (length out) most h) in
      let written = front_written (answer_for most out) _ out left done n p in
      record { number = sym done; value = rw done written.0; buffer = written.1 }

  front : (r : Result ℕ Refusal) (left : List ℕ) → Printed most text out r left → (result_unwrap_or r 0 ≤ length left) × (number_of r ≡ 0 → take (result_unwrap_or r 0) left ≡ text)
  front (Ok size) left p =
      let done : answer_for most out ≡ 0 = sym p.number in
      let there = at_front (answer_for most out) size text out left p.buffer done (p.value ∙ rw done) in
      (there.0, λ z. there.1)
  front (Err refusal) left p = (omega arith, λ z. absurd (none_is_done refusal z))

pub printed_given_exactly : PrintedGivenExactly
unfolding answer_for absent distinct
printed_given_exactly most text out r left p = rw p.number (first_given_exactly (refusals most out) 0 tt)

pub at_the_front : AtTheFront
at_the_front most text out r left p = front most text out r left p
