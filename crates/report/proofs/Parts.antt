-- Laws of the line: its numbers are short, and its parts are put one behind the other.
use Prim.Native.Nat.{ℕ, ◌+◌, ◌≤◌, ◌<◌}
use lib.ListN.{length, length-append}
use mathlib.Core.Bool.{Bool, true, false, cond}
use mathlib.Core.List.{List, ◌++◌}
use mathlib.Core.Path.{◌≡◌, subst⁻¹}
use native.Mathlib.Omega.{arith}
use Rattle.lent.proofs.Placed.{puts_then}
use Rattle.lent.specs.Put.{Puts}
use Rattle.mending.specs.declared.Mended.{Mended}
use Rattle.record.specs.Record.{most_events}
use Rattle.text.proofs.Decimal.{digits_below}
use Rattle.text.specs.Text.{text_of, decimal_of}
use Rattle.report.specs.Report.{counts_of, line_of, most_line}

abbrev named : List ℕ → ℕ → List ℕ
named name n = name ++ (decimal_of n ++ text_of " ")

named_size : (name : List ℕ) (n : ℕ) → length (named name n) ≡ length name + length (decimal_of n) + 1
named_size name n = omega (arith, length-append name (decimal_of n ++ text_of " "), length-append (decimal_of n) (text_of " "))

-- ---- the counts

module _ (told : Mended) (few : told.kept ≤ most_events) (fits : told.dropped < 65536) where
  four : length (decimal_of told.kept) ≤ 4
  four = digits_below 3 told.kept (omega arith)

  five : length (decimal_of told.dropped) ≤ 5
  five = digits_below 4 told.dropped (omega arith)

  module _ (out : List ℕ) (room : most_line ≤ length out) where
    pub kept_room : 5 + length (decimal_of told.kept) < length out
    kept_room = omega (arith, four)

    module _ (next : ℕ) (mid : List ℕ) (p : Puts (named (text_of "kept ") told.kept) 0 out next mid) where
      pub dropped_room : length mid ≡ length out → next + 8 + length (decimal_of told.dropped) < length mid
      dropped_room long = omega (arith, four, five, p.next, named_size (text_of "kept ") told.kept)

      module _ (end : ℕ) (left : List ℕ) (q : Puts (named (text_of "dropped ") told.dropped) next mid end left) where
        pub counts_put : Puts (counts_of told) 0 out end left
        unfolding counts_of
        counts_put = puts_then 0 next end _ _ out mid left (omega arith) p q

        pub counts_end : end + 15 ≤ most_line
        counts_end = omega (arith, four, five, p.next, q.next, named_size (text_of "kept ") told.kept, named_size (text_of "dropped ") told.dropped)

-- ---- the line, by its end

module _ (told : Mended) (out : List ℕ) (next : ℕ) (mid : List ℕ) (p : Puts (counts_of told) 0 out next mid) (end : ℕ) (left : List ℕ) where
  ended : (altered : Bool) → told.altered ≡ altered → Puts (cond altered (text_of "length altered\n") (text_of "length kept\n")) next mid end left → Puts (line_of told) 0 out end left
  unfolding line_of
  ended altered e q =
      subst⁻¹ (λ (b : Bool). Puts (counts_of told ++ cond b (text_of "length altered\n") (text_of "length kept\n")) 0 out end left) e (puts_then 0 next end _ _ out mid left (omega arith) p q)

  pub line_altered : told.altered ≡ true → Puts (text_of "length altered\n") next mid end left → Puts (line_of told) 0 out end left
  line_altered = ended true

  pub line_kept : told.altered ≡ false → Puts (text_of "length kept\n") next mid end left → Puts (line_of told) 0 out end left
  line_kept = ended false
