-- Laws of a picture that is shown: when it is refused, and that its drawing has room.
use Prim.Native.Nat.{ℕ, ◌≤◌}
use Rattle.std.specs.Prelude.{Result}
use Rattle.std.specs.Result.{result_unwrap_or}
use borrow.Author.Tests.{le-ltb}
use lib.Dec.{eqb}
use lib.ListN.{length, take}
use mathlib.Core.Bool.{Bool, true, false, cond, not}
use mathlib.Core.List.{List}
use mathlib.Core.Path.{◌≡◌, refl, ap, sym, ◌∙◌}
use native.Mathlib.Omega.{arith}
use Rattle.condition.specs.First.{first_of}
use Rattle.controller.specs.Part.{in_range}
use Rattle.controller.specs.declared.Controller.{Controller}
use Rattle.dots.specs.Dots.{image_size}
use Rattle.drawing.proofs.Theorems.{at_most}
use Rattle.drawing.specs.Answers.{value_for, Drawing, answer_for as drawing_answer, refusals as drawing_refusals}
use Rattle.drawing.specs.Drawing.{drawing_of, most_drawn}
use Rattle.lent.proofs.Front.{puts_front}
use Rattle.lent.proofs.Left.{front_and_rest}
use Rattle.lent.specs.Put.{Puts}
use Rattle.picture.proofs.Lines.{length_picture}
use Rattle.picture.specs.Answers.{refusals, answer_for, buffer_for}
use Rattle.picture.specs.Picture.{picture_of}
use Rattle.refusal.proofs.Settled.{none_is_done}
use Rattle.refusal.specs.Refusals.{number}
use Rattle.refusal.specs.declared.Refusal.{Refusal}
use Rattle.size.proofs.Sizes.{picture_small}
use Rattle.size.specs.Size.{most_dots, bytes_of, has_digits}
use Rattle.text.specs.Text.{refused_of}
use Rattle.view.specs.View.{shown_of}
use Rattle.view.specs.declared.words.Wanted.{Wanted}

-- ---- what the picture's answer tells, where its buffer has room for the largest
both : (has whole : Bool) → ◌≡◌ {A = ℕ} (cond (not has) 4 (cond (not whole) 5 0)) 0 → (has ≡ true) × (whole ≡ true)
both true true e = (refl, refl)
both true false e = absurd (omega arith)
both false whole e = absurd (omega arith)

module _ (c : Controller) (wanted : Wanted) (rom before : List ℕ) (within : in_range c.registers ≡ true) (room : length before ≡ most_dots) where
  abbrev has : Bool
  has = has_digits c.registers.mode.lines wanted.digits

  by_digits : (b : Bool) → has ≡ b → answer_for c wanted.digits (length rom) (length before) ≡ cond (not b) 4 (cond (not (eqb (length rom) image_size)) 5 0)
  unfolding answer_for refusals first_of
  by_digits true e = rw (within, e, room, le-ltb most_dots (bytes_of c.registers.mode wanted.digits) (picture_small c.registers.mode wanted.digits e))
  by_digits false e = rw (within, e)

  shown_refused : (n : ℕ) (b whole : Bool) → n ≡ cond (not b) 4 (cond (not whole) 5 0) → (n ≡ 0 → ⊥) → (shown : List ℕ) → refused_of n ≡ cond b (cond whole shown (refused_of 5)) (refused_of 4)
  shown_refused n true true e h shown = absurd (h e)
  shown_refused n true false e h shown = ap refused_of e
  shown_refused n false whole e h shown = ap refused_of e

  pub refusal_puts : (refusal : Refusal) → number refusal ≡ answer_for c wanted.digits (length rom) (length before) → (n r : ℕ) (out left : List ℕ) → n ≡ number refusal → Puts (refused_of n) 0 out r left → Puts (shown_of c wanted rom) 0 out r left
  unfolding shown_of
  refusal_puts refusal e n r out left f p = rw (shown_refused n has (eqb (length rom) image_size) (f ∙ e ∙ by_digits has refl) (λ z. none_is_done refusal (sym f ∙ z)) (drawing_of wanted.form c.registers.mode wanted.digits (picture_of c wanted.digits rom wanted.phase))) at p

  module _ (done : answer_for c wanted.digits (length rom) (length before) ≡ 0) where
    told : (has ≡ true) × (eqb (length rom) image_size ≡ true)
    told = both has (eqb (length rom) image_size) (sym (by_digits has refl) ∙ done)

    pub digits_told : has ≡ true
    digits_told = told.0

    shown_whole : shown_of c wanted rom ≡ drawing_of wanted.form c.registers.mode wanted.digits (picture_of c wanted.digits rom wanted.phase)
    unfolding shown_of
    shown_whole = simp (told.0, told.1)

    -- the picture's bytes in the buffer that it was drawn in
    pub dots_there : (dots : List ℕ) (bytes : ℕ) → dots ≡ buffer_for c wanted.digits rom wanted.phase before → bytes ≡ bytes_of c.registers.mode wanted.digits → take bytes dots ≡ picture_of c wanted.digits rom wanted.phase
    unfolding buffer_for
    dots_there dots bytes d b =
        (front_and_rest _ bytes (picture_of c wanted.digits rom wanted.phase) before dots d done (length_picture c wanted.digits rom wanted.phase ∙ sym b)).0

    pub dots_counted : (dots : List ℕ) (bytes : ℕ) → dots ≡ buffer_for c wanted.digits rom wanted.phase before → bytes ≡ bytes_of c.registers.mode wanted.digits → length (take bytes dots) ≡ bytes
    dots_counted dots bytes d b = ap length (dots_there dots bytes d b) ∙ length_picture c wanted.digits rom wanted.phase ∙ sym b

    -- ---- and its drawing
    pub drawing_puts : (dots out left : List ℕ) (answer : Result ℕ Refusal) (n : ℕ) → dots ≡ picture_of c wanted.digits rom wanted.phase → most_drawn ≤ length out
        → Drawing wanted.form c.registers.mode wanted.digits dots out answer left → n ≡ result_unwrap_or answer 0 → Puts (shown_of c wanted rom) 0 out n left
    unfolding drawing_answer drawing_refusals value_for first_of
    drawing_puts dots out left answer n e h d k =
        let mode = c.registers.mode in
        let long : bytes_of mode wanted.digits ≤ length dots = omega (arith, ap length e ∙ length_picture c wanted.digits rom wanted.phase) in
        let room : length (drawing_of wanted.form mode wanted.digits dots) ≤ length out = omega (arith, at_most wanted.form mode wanted.digits dots digits_told) in
        let fits : drawing_answer wanted.form mode wanted.digits dots out ≡ 0 = simp (digits_told, le-ltb _ _ long, le-ltb _ _ room) in
        rw (shown_whole, ← e) (puts_front _ _ out left fits n (k ∙ d.value ∙ rw fits) d.buffer)
