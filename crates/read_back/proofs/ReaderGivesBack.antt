-- The reader of a record gives back what was written.
use Prim.Native.Nat.{ℕ}
use Rattle.std.specs.Prelude.{Ok, Err}
use denote.Ref.{Bor}
use mathlib.Core.List.{List}
use mathlib.Core.Path.{◌≡◌, refl, sym, subst, ◌∙◌}
use Rattle.reader.specs.declared.Reader.{Reader}
use Rattle.record.specs.Place.{Step, next_of}
use Rattle.record.specs.Reading.{Read, no_more as read_all, then as and_then}
use Rattle.refusal.proofs.Settled.{none_is_done}
use Rattle.read_back.specs.Theorems.{ReaderGivesBack}
use Rattle.read_back.specs.Written.{Gives, no_more, then}
use Rattle.read_back.proofs.ReadBack.{reads_back}

-- what a reader gives is read in turn from its place on
in_turn : {reader : Reader} {answers : List Step} → Gives reader answers → Read reader.bytes.now reader.place answers
in_turn no_more = read_all
in_turn {reader} (then {after = after} {r = r} {answers = answers} p rest) =
    let held : Read reader.bytes.now after.place answers = subst (λ (b : Bor (List ℕ)). Read b.now after.place answers) p.held (in_turn rest) in
    and_then p.stands (subst (λ (n : ℕ). Read reader.bytes.now n answers) (p.moved ∙ sym p.stands.next) held)

-- and what is read in turn, a reader gives
in_calls : (held : Bor (List ℕ)) {place : ℕ} {answers : List Step} → Read held.now place answers → Gives (record { bytes = held; place = place }) answers
in_calls held read_all = no_more
in_calls held (and_then {place = place} {r = r} stands rest) =
    then {after = record { bytes = held; place = next_of r place }} record { stands = stands; held = refl; moved = stands.next } (in_calls held rest)

pub reader_gives_back : ReaderGivesBack
reader_gives_back bytes (Err refusal) events w p = none_is_done refusal (p.number ∙ reads_back.sound w)
reader_gives_back bytes (Ok reader) events w p =
    let held : reader.bytes ≡ bytes = p.made.held in
    let start : reader.place ≡ 3 = p.made.start in
    record {
      gives = in_calls reader.bytes (rw (held, start) (reads_back.gives w));
      gives_no_other = λ answers g size. reads_back.gives_no_other w (rw (held, start) at (in_turn g)) size;
    }
