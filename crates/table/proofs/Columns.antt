-- Laws of the lines of a table.
use Prim.Native.Nat.{ℕ, ◌+◌, ◌≤◌, ◌<◌}
use lib.ListN.{length, drop, get_or, length-append, drop_of_length-le}
use lib.Seq.{drop-cons}
use mathlib.Core.List.{List, [], ◌∷◌, ◌++◌}
use mathlib.Core.Path.{◌≡◌}
use native.Mathlib.Numerals.{add-one}
use native.Mathlib.Omega.{arith}
use Rattle.event.specs.Kind.{kind_number}
use Rattle.event.specs.declared.Event.{Event}
use Rattle.event.specs.declared.Event.TheVariants.{Transfer, Wait}
use Rattle.event.specs.declared.Kind.{Kind}
use Rattle.event.specs.declared.Kind.TheVariants.{InstructionWrite, DataWrite, StatusRead, DataRead}
use Rattle.lent.proofs.Placed.{Awaits, puts_then, awaits_none, awaits_room, awaits_more}
use Rattle.lent.specs.Put.{Puts}
use Rattle.record.specs.Event.{raw_of}
use Rattle.text.proofs.Decimal.{digits_below}
use Rattle.text.specs.Text.{decimal_of, text_of}
use Rattle.table.specs.Promises.{Narrow}
use Rattle.table.specs.Table.{spaced, line_of, line_bytes}
use Rattle.table.specs.declared.line.Line.{Line}

-- ---- numbers with a space behind each

spaced_from : (numbers : List ℕ) (i : ℕ) → i < length numbers → spaced (drop i numbers) ≡ (decimal_of (get_or numbers i 0) ++ text_of " ") ++ spaced (drop (i + 1) numbers)
unfolding spaced
spaced_from numbers i h = rw (add-one, drop-cons numbers i 0)

module _ (numbers : List ℕ) (place : ℕ) (out now : List ℕ) (next i : ℕ) (h : i < length numbers) (room : place + length (spaced numbers) ≤ length now) (a : Awaits (spaced (drop i numbers)) next now (spaced numbers) place out) where
  abbrev first : List ℕ
  first = decimal_of (get_or numbers i 0) ++ text_of " "

  on : Awaits (first ++ spaced (drop (i + 1) numbers)) next now (spaced numbers) place out
  on = rw (spaced_from numbers i h) at a

  pub spaced_room : next + length (decimal_of (get_or numbers i 0)) < length now
  spaced_room = omega (arith, length-append (decimal_of (get_or numbers i 0)) (text_of " "), awaits_room (spaced numbers) place out first (spaced (drop (i + 1) numbers)) next now on room)

  pub spaced_turn : (then : ℕ) (left : List ℕ) → Puts first next now then left → Awaits (spaced (drop (i + 1) numbers)) then left (spaced numbers) place out
  spaced_turn = awaits_more (spaced numbers) place out first (spaced (drop (i + 1) numbers)) next now on (omega (arith, spaced_room))

pub spaced_end : (numbers : List ℕ) (place : ℕ) (out now : List ℕ) (next i : ℕ) → length numbers ≤ i → Awaits (spaced (drop i numbers)) next now (spaced numbers) place out → Puts (spaced numbers) place out next now
unfolding spaced
spaced_end numbers place out now next i h a = awaits_none (spaced numbers) place out next now (rw (drop_of_length-le numbers h) at a)

-- ---- a line

module _ (line : Line) (w : Narrow line) (v : line.value < 65536) (r : line.read < 256) where
  abbrev columns : List ℕ
  columns = spaced (line.number ∷ line.kind ∷ line.value ∷ line.answer ∷ line.read ∷ [])

  -- they and the byte behind each are no more than a line has
  sizes : length columns + length (decimal_of line.wrap) < line_bytes
  unfolding spaced
  sizes =
      simp length-append
      (omega (arith, digits_below 3 line.number w.four, digits_below 0 line.kind w.one, digits_below 4 line.value (omega arith), digits_below 1 line.answer w.two, digits_below 2 line.read (omega arith), digits_below 0 line.wrap w.last))

  module _ (place : ℕ) (out : List ℕ) (room : place + line_bytes ≤ length out) where
    pub columns_room : place + length columns ≤ length out
    columns_room = omega (arith, sizes)

    module _ (next : ℕ) (mid : List ℕ) (p : Puts columns place out next mid) where
      pub wrap_room : length mid ≡ length out → next + length (decimal_of line.wrap) < length mid
      wrap_room long = omega (arith, sizes, p.next)

      pub line_put : (end : ℕ) (left : List ℕ) → Puts (decimal_of line.wrap ++ text_of "\n") next mid end left → Puts (line_of line.number line.kind line.value line.answer line.read line.wrap) place out end left × (end ≤ place + line_bytes)
      unfolding line_of
      line_put end left q =
          (puts_then place next end columns (decimal_of line.wrap ++ text_of "\n") out mid left (omega arith) p q, omega (arith, sizes, p.next, q.next, length-append (decimal_of line.wrap) (text_of "\n")))

-- the kind of an event is one digit
kind_number_short : (kind : Kind) → kind_number kind < 10
kind_number_short InstructionWrite = omega arith
kind_number_short DataWrite = omega arith
kind_number_short StatusRead = omega arith
kind_number_short DataRead = omega arith

pub kind_short : (event : Event) → (raw_of event).kind < 10
kind_short (Transfer kind value) = kind_number_short kind
kind_short (Wait value) = omega arith
