-- A bench record reads back as it was written.
use Prim.Native.Nat.{ℕ, suc, ◌+◌, ◌*◌, ◌≤◌, ◌<◌}
use Rattle.std.specs.Prelude.{Ok}
use borrow.Author.Tests.{le-ltb}
use lib.ListN.{length, drop, length-append}
use mathlib.Core.Bool.{false}
use mathlib.Core.List.{List, [], ◌∷◌, ◌++◌, append_assoc, append-nil}
use mathlib.Core.Option.{Option, none, some}
use mathlib.Core.Path.{◌≡◌, refl, sym, ap, subst, ◌∙◌}
use native.Mathlib.Omega.{arith}
use Rattle.appending.proofs.Refusals.{append_roomy, append_done}
use Rattle.appending.specs.Append.{longer, append_of}
use Rattle.appending.specs.Empty.{empty_record, empty_of}
use Rattle.condition.specs.First.{first_of}
use Rattle.event.specs.declared.Event.{Event}
use Rattle.lent.proofs.Left.{front_and_rest}
use Rattle.record.proofs.Encoded.{fits_known, known}
use Rattle.record.proofs.Framed.{AllKnown, known_more, record_sound, record_events, record_size, sound_front, sound_record}
use Rattle.record.proofs.InTurn.{sound_read, read_same, given_size}
use Rattle.record.proofs.Sound.{sound}
use Rattle.record.specs.Event.{event_of, is_none, raw_of, Fits}
use Rattle.record.specs.Place.{Step}
use Rattle.record.specs.Reading.{AllFit, Read, given_from}
use Rattle.record.specs.Record.{most_events, most_bytes, framed, body_of, record_of, front_events, events_of, check_of}
use Rattle.read_back.specs.Theorems.{ReadsBack, SoundExactlyWhenWritten, EarlierEventsStay}
use Rattle.read_back.specs.Written.{Written, begun, more}
use Rattle.read_back.proofs.Longer.{record_longer, longer_size, longer_sound}

record Made (events : List Event) (bytes : List ℕ) : Type 0 where
  same : bytes ≡ record_of events
  few : length events ≤ most_events
  all : AllKnown events

made : {events : List Event} {bytes : List ℕ} → Written events bytes → Made events bytes
unfolding record_of framed body_of
made (begun {out} {left} {r} p done) =
    record { same = (front_and_rest _ 3 empty_record out left p.buffer (sym p.number ∙ done) refl).0; few = omega arith; all = tt }
made (more {events} {bytes} {out} {left} {r} event w p done) =
    let m : Made events bytes = made w in
    let zero : append_of bytes (raw_of event) (length out) ≡ 0 = sym p.number ∙ done in
    let h = append_done bytes (raw_of event) (length out) zero in
    let size : length bytes ≡ length events * 3 + 3 = ap length m.same ∙ record_size events in
    let new = front_and_rest _ (length bytes + 3) (longer bytes (raw_of event)) out left p.buffer zero (longer_size bytes (raw_of event) (omega arith)) in
    let less : length bytes ≡ most_bytes → ⊥ = h.less in
    record {
      same = new.0 ∙ ap (λ (l : List ℕ). longer l (raw_of event)) m.same ∙ record_longer events event;
      few = omega (arith, length-append events (event ∷ []), m.few);
      all = known_more events event m.all (known event h.known);
    }

written_size : {events : List Event} {bytes : List ℕ} → Written events bytes → length bytes ≡ length events * 3 + 3
written_size {events} w = ap length (made w).same ∙ record_size events

-- ---- the theorems

written_sound : {events : List Event} {bytes : List ℕ} → Written events bytes → check_of bytes ≡ 0
written_sound {events} {bytes} w = let m = made w in ap check_of m.same ∙ record_sound events m.all m.few

append_more : {events : List Event} {bytes : List ℕ} (event : Event) (buffer : ℕ) → Written events bytes → length events < most_events → Fits event → length bytes + 3 ≤ buffer → append_of bytes (raw_of event) buffer ≡ 0
append_more {events} {bytes} event buffer w few fits room =
    let size = written_size w in
    sym (append_roomy bytes (raw_of event) buffer (sym (written_sound w)) (ap is_none (fits_known event fits)) (λ z. omega arith) room)

empty_zero : (buffer : ℕ) → 3 ≤ buffer → empty_of buffer ≡ 0
unfolding empty_of first_of
empty_zero buffer h = simp (le-ltb _ _ h)

read_written : {events : List Event} {bytes : List ℕ} → Written events bytes → Read bytes 3 (given_from 3 events)
read_written {events} {bytes} w =
    let m = made w in
    subst (λ (l : List Event). Read bytes 3 (given_from 3 l)) (ap events_of m.same ∙ record_events events m.all m.few) (sound_read bytes (written_sound w))

read_no_other : {events : List Event} {bytes : List ℕ} {answers : List Step} → Written events bytes → Read bytes 3 answers → length answers ≡ suc (length events) → answers ≡ given_from 3 events
read_no_other {events} w r size = read_same r (read_written w) (size ∙ sym (given_size 3 events))

-- one event more, into a buffer that just has room
write_one : {events : List Event} {bytes : List ℕ} (event : Event) → Written events bytes → length events < most_events → Fits event → (bytes' : List ℕ) × Written (events ++ (event ∷ [])) bytes'
write_one {events} {bytes} event w few fits =
    let size = written_size w in
    let zero = append_more event (length (longer bytes (raw_of event))) w few fits (omega (arith, longer_size bytes (raw_of event) (omega arith))) in
    (_, more {out = longer bytes (raw_of event)} {r = Ok tt} event w record { number = sym zero; buffer = refl } refl)

write_on : (front back : List Event) (bytes : List ℕ) → Written front bytes → length front + length back ≤ most_events → AllFit back → (bytes' : List ℕ) × Written (front ++ back) bytes'
write_on front [] bytes w few fit = (bytes, subst (λ (l : List Event). Written l bytes) (sym (append-nil front)) w)
write_on front (event ∷ back) bytes w few fit =
    let one = write_one event w (omega arith) fit.0 in
    let rest = write_on (front ++ (event ∷ [])) back one.0 one.1 (omega (arith, length-append front (event ∷ []))) fit.1 in
    (rest.0, subst (λ (l : List Event). Written l rest.0) (append_assoc front (event ∷ []) back) rest.1)

each_list : (events : List Event) → length events ≤ most_events → AllFit events → (bytes : List ℕ) × Written events bytes
each_list events few fit =
    write_on [] events _ (begun {out = empty_record} {r = Ok tt} record { number = sym (empty_zero 3 (omega arith)); buffer = refl } refl) (omega arith) fit

pub reads_back : ReadsBack
reads_back = record {
  each = each_list;
  empty_done = λ h p. p.number ∙ empty_zero _ h;
  append_done = λ event w few fits room p. p.number ∙ append_more event _ w few fits room;
  sound = written_sound;
  gives = read_written;
  gives_no_other = read_no_other;
}

pub sound_exactly_when_written : SoundExactlyWhenWritten
sound_exactly_when_written bytes small = (
  λ zero.
      let h = sound bytes zero in
      let again = sound_record bytes small h in
      let few = (sound_front bytes h).1 in
      let w = each_list (front_events (drop 3 bytes)) few again.1 in
      (front_events (drop 3 bytes), few, again.1, subst (Written (front_events (drop 3 bytes))) ((made w.1).same ∙ sym again.0) w.1),
  λ some-list. written_sound some-list.3,
)

-- ---- the earlier events

an_event : (found : Option Event) → is_none found ≡ false → (event : Event) × (found ≡ some event)
an_event none e = let z : ◌≡◌ {A = ℕ} 0 1 = cc in absurd (omega arith)
an_event (some event) e = (event, refl)

pub earlier_events_stay : EarlierEventsStay
earlier_events_stay bytes raw out left r p done =
    let zero : append_of bytes raw (length out) ≡ 0 = sym p.number ∙ done in
    let h = append_done bytes raw (length out) zero in
    let whole = sound bytes h.zero in
    let found = an_event (event_of raw.kind raw.value) h.known in
    let new = front_and_rest _ (length bytes + 3) (longer bytes raw) out left p.buffer zero (longer_size bytes raw whole.big) in
    let on = longer_sound bytes raw found.0 whole h.less found.1 in
    record { event = found.0; meant = found.1; sound = ap check_of new.0 ∙ on.0; events = ap events_of new.0 ∙ on.1; rest = new.1 }
