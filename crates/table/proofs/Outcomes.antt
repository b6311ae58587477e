-- The three texts, each by its condition.
use Prim.Native.Nat.{ℕ, ◌≤◌, ◌<◌}
use borrow.Author.Tests.{lt-ltb, le-ltb, eq-eqb, ne_eqb}
use lib.ListN.{length}
use mathlib.Core.List.{List}
use mathlib.Core.Path.{◌≡◌, sym}
use Rattle.record.specs.Record.{most_bytes, check_of}
use Rattle.refusal.proofs.Settled.{none_is_done}
use Rattle.refusal.specs.Refusals.{number}
use Rattle.refusal.specs.declared.Refusal.{Refusal}
use Rattle.text.specs.Text.{text_of, refused_of}
use Rattle.table.specs.Table.{table_of, printed_of}

module _ (bytes : List ℕ) where
  pub printed_long : most_bytes < length bytes → printed_of bytes ≡ text_of "too long\n"
  unfolding printed_of
  printed_long h = rw (lt-ltb most_bytes (length bytes) h)

  pub printed_refused : (refusal : Refusal) → length bytes ≤ most_bytes → number refusal ≡ check_of bytes → printed_of bytes ≡ refused_of (number refusal)
  unfolding printed_of
  printed_refused refusal h e = rw (le-ltb most_bytes (length bytes) h, ← e, ne_eqb (number refusal) 0 (none_is_done refusal))

  pub printed_sound : length bytes ≤ most_bytes → 0 ≡ check_of bytes → printed_of bytes ≡ table_of bytes
  unfolding printed_of
  printed_sound h e = rw (le-ltb most_bytes (length bytes) h, eq-eqb (check_of bytes) 0 (sym e))
