-- The three outcomes, each by its condition: too long, refused, mended.
use Prim.Native.Nat.{ℕ, ◌+◌, ◌*◌, ◌≤◌, ◌<◌}
use Rattle.std.specs.Prelude.{Ok, Err}
use borrow.Author.Tests.{eqb-true, lt-ltb, le-ltb, eq-eqb, ne_eqb}
use lib.Dec.{eqb, ltb}
use lib.ListN.{length}
use mathlib.Core.Bool.{Bool, true, false, cond}
use mathlib.Core.List.{[], List}
use mathlib.Core.Logic.{◌⊎◌, inl, inr}
use mathlib.Core.Path.{◌≡◌, refl, sym, subst, ◌∙◌}
use native.Mathlib.Omega.{arith}
use Rattle.lent.proofs.Front.{puts_front}
use Rattle.lent.proofs.Left.{refused_keeps}
use Rattle.lent.proofs.Placed.{put_none}
use Rattle.lent.specs.Put.{Puts}
use Rattle.mending.proofs.Answers.{any_room, mendable}
use Rattle.mending.proofs.Kept.{kept_few}
use Rattle.mending.proofs.Sound.{mended_sound, Made, made, kept_told, all_counted}
use Rattle.mending.proofs.Written.{mended_size}
use Rattle.mending.specs.Mend.{mended_of, mend_of, Mending}
use Rattle.mending.specs.declared.Mended.{Mended}
use Rattle.record.specs.Record.{most_bytes, check_of, most_events}
use Rattle.refusal.proofs.Settled.{none_is_done}
use Rattle.refusal.specs.Refusals.{number}
use Rattle.refusal.specs.declared.Refusal.{Refusal}
use Rattle.text.specs.Text.{text_of, refused_of}
use Rattle.report.specs.Report.{line_of, too_long, refusal_of, line_for, record_for}
use Rattle.report.specs.Theorems.{NothingOrSound}

-- nothing is written
puts_nothing : (out : List ℕ) → Puts [] 0 out 0 out
puts_nothing out = record { next = refl; buffer = sym (put_none 0 out) }

-- both are written: the record, and what is said of it
abbrev Both : (bytes mended line : List ℕ) (size said : ℕ) (mended_left line_left : List ℕ) → Type 0
Both bytes mended line size said mended_left line_left = Puts (record_for bytes) 0 mended size mended_left × Puts (line_for bytes) 0 line said line_left

pub both_too_long : (bytes mended line : List ℕ) (said : ℕ) (line_left : List ℕ) → 65537 < length bytes → Puts (text_of "too long\n") 0 line said line_left → Both bytes mended line 0 said mended line_left
unfolding line_for record_for
both_too_long bytes mended line said line_left h p = let long = lt-ltb 65537 (length bytes) h in (rw long (puts_nothing mended), rw long p)

module _ (bytes mended : List ℕ) (fits : length bytes ≤ 65537) (room : most_bytes ≤ length mended) (mended_left : List ℕ) where
  short : ltb 65537 (length bytes) ≡ false
  short = le-ltb 65537 (length bytes) fits

  answered : mend_of bytes (length mended) ≡ refusal_of bytes
  answered = any_room bytes (length mended) room

  module _ (refusal : Refusal) (p : Mending bytes mended (Err refusal) mended_left) where
    pub both_refused : (n : ℕ) → n ≡ number refusal → (line : List ℕ) (said : ℕ) (line_left : List ℕ) → Puts (refused_of n) 0 line said line_left → Both bytes mended line 0 said mended_left line_left
    unfolding line_for record_for
    both_refused n told line said line_left q =
        let not_done : eqb (refusal_of bytes) 0 ≡ false = ne_eqb _ _ (λ z. none_is_done refusal (p.number ∙ answered ∙ z)) in
        let stays : mended ≡ mended_left = refused_keeps _ _ mended (ne_eqb _ _ (λ z. none_is_done refusal (p.number ∙ z))) ∙ sym p.buffer in
        (rw (short, not_done) (subst (Puts [] 0 mended 0) stays (puts_nothing mended)), rw (short, not_done) (rw (told, p.number, answered) at q))

  module _ (told : Mended) (p : Mending bytes mended (Ok told) mended_left) where
    m : Made bytes mended told mended_left
    m = made bytes mended told mended_left p

    pub told_fits : (told.kept ≤ most_events) × (told.dropped < 65536)
    told_fits = (omega (arith, kept_told m, kept_few bytes), omega (arith, all_counted bytes mended told mended_left p))

    pub both_mended : (line : List ℕ) (said : ℕ) (line_left : List ℕ) → Puts (line_of told) 0 line said line_left → Both bytes mended line (3 + 3 * told.kept) said mended_left line_left
    unfolding line_for record_for
    both_mended line said line_left q =
        let zero : mend_of bytes (length mended) ≡ 0 = sym p.number in
        let done_so : eqb (refusal_of bytes) 0 ≡ true = eq-eqb _ _ (sym answered ∙ zero) in
        let size : 3 + 3 * told.kept ≡ length (mended_of bytes) = omega (arith, kept_told m, mended_size bytes m.able.big m.able.version) in
        (rw (short, done_so) (puts_front _ (mended_of bytes) mended mended_left zero _ size p.buffer), rw (short, done_so, ← m.told) q)

-- ---- nothing or a sound record

pub nothing_or_sound : NothingOrSound
unfolding record_for
nothing_or_sound bytes = go (too_long bytes) (eqb (refusal_of bytes) 0) refl
  where
    go : (long done : Bool) → eqb (refusal_of bytes) 0 ≡ done → (cond long [] (cond done (mended_of bytes) []) ≡ []) ⊎ (check_of (cond long [] (cond done (mended_of bytes) [])) ≡ 0)
    go true done e = inl refl
    go false false e = inl refl
    go false true e = inr (mended_sound bytes (mendable bytes most_bytes (eqb-true _ _ e)))
