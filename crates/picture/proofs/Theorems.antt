-- The theorems about the picture: from its bytes by index, and from what its dots depend on.
use Prim.Native.Nat.{ℕ, zero, suc, ◌+◌, ◌*◌, ◌-◌, ◌<◌, ◌≤◌}
use Rattle.std.specs.Prelude.{Ok}
use borrow.Author.Tests.{ne_eqb}
use lib.Arith.{digits_lt}
use lib.Dec.{T, ltb, ltb→lt, nltb→le}
use lib.ListN.{length, drop, get_or, length-append, length-drop, get_or-append}
use lib.Seq.{get_or-drop, get_or-append-add, get_or-set_other}
use mathlib.Core.Bool.{Bool, true, false, cond, ◌&&◌, not}
use mathlib.Core.List.{List, [], ◌∷◌, ◌++◌}
use mathlib.Core.Path.{◌≡◌, refl, ap, sym, ◌∙◌}
use native.Mathlib.Nat.{mul_assoc, add-mul, add_assoc}
use native.Mathlib.Omega.{arith}
use Rattle.condition.proofs.First.{first_given_exactly}
use Rattle.condition.proofs.Tests.{split, and_left, and_right}
use Rattle.condition.specs.First.{Rule, first_of, absent, distinct}
use Rattle.controller.specs.Part.{in_range}
use Rattle.controller.specs.declared.Controller.{Controller}
use Rattle.controller.specs.declared.registers.Mode.{Mode}
use Rattle.counters.specs.Address.{address_of}
use Rattle.counters.specs.Counter.{number_on}
use Rattle.counters.specs.declared.LineMode.TheVariants.{Two}
use Rattle.counters.specs.declared.address.Cell.{Cell}
use Rattle.dots.specs.Digit.{shown_on}
use Rattle.dots.specs.Dots.{is_marked, five_of, cell_dots, dots_at, line_of}
use Rattle.dots.specs.declared.phase.Phase.{Phase}
use Rattle.lent.proofs.Left.{done_writes}
use Rattle.lent.proofs.Lists.{length_parts, length_values, parts_same, parts_at, values_same, values_at}
use Rattle.lent.specs.Buffer.{over}
use Rattle.lent.specs.Lists.{values, parts}
use Rattle.size.specs.Size.{lines_of, rows_of, bytes_of}
use Rattle.picture.specs.Answers.{refusals, answer_for, buffer_for, Pictured}
use Rattle.picture.specs.Picture.{picture_of}
use Rattle.picture.specs.Theorems.{PictureGivenExactly, ByteByByte, RestStays, SameScreen, OnlyTheScreenMatters, DisplayOffIsZeros, FiveBitsOnly, stored_in, OnlyShownCellsMatter, GapMarksNothing}
use Rattle.picture.proofs.Lines.{length_picture, off_dots}

-- ---- exactly when
pub picture_given_exactly : PictureGivenExactly
unfolding answer_for refusals absent distinct
picture_given_exactly c digits rom phase out answer left p =
    rw p.number (first_given_exactly (refusals c digits (length rom) (length out)) 0 tt)

-- ---- by index
picture_at : (c : Controller) (digits : ℕ) (rom : List ℕ) (phase : Phase) (line row digit : ℕ) → line < lines_of c.registers.mode.lines → row < rows_of c.registers.mode → digit < digits
    → get_or (picture_of c digits rom phase) ((line * rows_of c.registers.mode + row) * digits + digit) 0 ≡ dots_at c rom phase line row digit
unfolding picture_of line_of
picture_at c digits rom phase line row digit hl hr hd =
    rw (add-mul, mul_assoc, add_assoc)
    (parts_at _ _ _ line (row * digits + digit) (λ q. length_parts _ digits _ (λ k. length_values digits _)) hl (digits_lt hr hd)
    ∙ parts_at _ digits _ row digit (λ q. length_values digits _) hr hd
    ∙ values_at digits _ digit hd)

-- a call that is done leaves the picture over the buffer
done_over : (c : Controller) (digits : ℕ) (rom : List ℕ) (phase : Phase) (out left : List ℕ) → Pictured c digits rom phase out (Ok tt) left → left ≡ over (picture_of c digits rom phase) out
unfolding buffer_for
done_over c digits rom phase out left p = p.buffer ∙ sym (done_writes _ _ out (sym p.number))

pub byte_by_byte : ByteByByte
unfolding over
byte_by_byte c digits rom phase out left p line row digit hl hr hd =
    rw (done_over c digits rom phase out left p)
    (get_or-append (picture_of c digits rom phase) _ 0 _ (rw length_picture (digits_lt (digits_lt hl hr) hd))
    ∙ picture_at c digits rom phase line row digit hl hr hd)

-- a call that is done found none of its conditions
abbrev Unmet : List Rule → Type 0
Unmet [] = T true
Unmet (rule ∷ rules) = T (not rule.condition) × Unmet rules

abbrev positive : List Rule → Bool
positive [] = true
positive (rule ∷ rules) = ltb 0 rule.number && positive rules

unmet : (rules : List Rule) → T (positive rules) → first_of rules 0 ≡ 0 → Unmet rules
unfolding first_of
unmet [] t = λ e. tt
unmet (rule ∷ rules) t =
    split (λ (n : ℕ). n ≡ 0 → Unmet (rule ∷ rules)) rule.condition
    (λ u e. absurd (omega (arith, ltb→lt 0 rule.number (and_left (ltb 0 rule.number) (positive rules) t))))
    (λ u e. (u, unmet rules (and_right (ltb 0 rule.number) (positive rules) t) e))

-- so its buffer had room
has_room : (c : Controller) (digits : ℕ) (rom : List ℕ) (phase : Phase) (out left : List ℕ) → Pictured c digits rom phase out (Ok tt) left → bytes_of c.registers.mode digits ≤ length out
unfolding answer_for refusals
has_room c digits rom phase out left p =
    nltb→le (length out) (bytes_of c.registers.mode digits) (unmet (refusals c digits (length rom) (length out)) tt (sym p.number)).1.1.1.0

over_behind : (new out : List ℕ) (k : ℕ) → length new ≤ k → get_or (over new out) k 0 ≡ get_or out k 0
unfolding over
over_behind new out k h =
    let n = length new in
    let e : n + (k - n) ≡ k = omega arith in
    ap (λ (j : ℕ). get_or (new ++ drop n out) j 0) (sym e) ∙ get_or-append-add new (drop n out) (k - n) 0 ∙ get_or-drop n out (k - n) 0 ∙ ap (λ (j : ℕ). get_or out j 0) e

pub rest_stays : RestStays
unfolding over
rest_stays c digits rom phase out left p =
    let whole = done_over c digits rom phase out left p in
    let long : length (picture_of c digits rom phase) ≡ bytes_of c.registers.mode digits = length_picture c digits rom phase in
    (rw whole (simp (length-append, length-drop) (omega (arith, long, has_room c digits rom phase out left p))), λ k h. rw whole (over_behind (picture_of c digits rom phase) out k (omega (arith, long))))

-- ---- what the picture depends on
same_answer : (a b : Controller) → SameScreen a b → in_range a.registers ≡ true → in_range b.registers ≡ true → (digits m n : ℕ) → answer_for a digits m n ≡ answer_for b digits m n
unfolding answer_for refusals first_of
same_answer a b same ra rb digits m n = simp (ra, rb, same.mode)

grid_same : (l m r q digits : ℕ) (f g : ℕ → ℕ → ℕ → ℕ) → l ≡ m → r ≡ q → ((line row digit : ℕ) → line < m → digit < digits → f line row digit ≡ g line row digit)
    → parts l (λ line. parts r (λ row. values digits (f line row))) ≡ parts m (λ line. parts q (λ row. values digits (g line row)))
grid_same l m r q digits f g el er same =
    rw (el, er) (parts_same _ _ _ (λ line hl. parts_same _ _ _ (λ row hr. values_same digits _ _ (λ digit hd. same line row digit hl hd))))

picture_same : (a b : Controller) (digits : ℕ) (rom : List ℕ) (phase : Phase) → a.registers.mode ≡ b.registers.mode
    → ((line row digit : ℕ) → line < lines_of b.registers.mode.lines → digit < digits → dots_at a rom phase line row digit ≡ dots_at b rom phase line row digit)
    → picture_of a digits rom phase ≡ picture_of b digits rom phase
unfolding picture_of line_of
picture_same a b digits rom phase e same =
    grid_same _ _ _ _ digits (dots_at a rom phase) (dots_at b rom phase) (ap (λ (m : Mode). lines_of m.lines) e) (ap rows_of e) same

same_dots : (a b : Controller) → SameScreen a b → (rom : List ℕ) (phase : Phase) (line row digit : ℕ) → dots_at a rom phase line row digit ≡ dots_at b rom phase line row digit
unfolding dots_at cell_dots is_marked
same_dots a b same rom phase line row digit = simp (same.display, same.character, same.address, same.shift, same.mode, same.lights)

pub only_the_screen_matters : OnlyTheScreenMatters
unfolding buffer_for
only_the_screen_matters a b same ra rb digits rom phase out =
    let n = same_answer a b same ra rb digits (length rom) (length out) in
    (n, rw (n, picture_same a b digits rom phase same.mode (λ line row digit _ _. same_dots a b same rom phase line row digit)))

unseen_dots : (c : Controller) (rom : List ℕ) (phase : Phase) (cell byte line row digit : ℕ)
    → ((shown_on c.registers.mode.lines c.registers.shift line digit).0 ≡ cell → ⊥)
    → dots_at (stored_in c cell byte) rom phase line row digit ≡ dots_at c rom phase line row digit
unfolding dots_at cell_dots
unseen_dots c rom phase cell byte line row digit other = rw (get_or-set_other c.display cell _ byte 0 other)

pub only_shown_cells_matter : OnlyShownCellsMatter
only_shown_cells_matter c digits rom phase cell byte unseen =
    picture_same (stored_in c cell byte) c digits rom phase refl
    (λ line row digit hl hd. unseen_dots c rom phase cell byte line row digit (unseen line digit hl hd))

-- ---- the dots
pub display_off_is_zeros : DisplayOffIsZeros
display_off_is_zeros = off_dots

Small : List ℕ → Type 0
Small l = (k : ℕ) → get_or l k 0 < 0x20

small_one : (v : ℕ) → v < 0x20 → Small (v ∷ [])
unfolding Small
small_one v h zero = h
small_one v h (suc k) = omega arith

small_append : (a b : List ℕ) → Small a → Small b → Small (a ++ b)
unfolding Small
small_append [] b ha hb k = hb k
small_append (x ∷ a) b ha hb zero = ha 0
small_append (x ∷ a) b ha hb (suc k) = small_append a b (λ j. ha (suc j)) hb k

small_parts : (n : ℕ) (f : ℕ → List ℕ) → ((k : ℕ) → Small (f k)) → Small (parts n f)
unfolding Small parts
small_parts zero f h k = omega arith
small_parts (suc n) f h k = small_append (parts n f) (f n) (small_parts n f h) (h n) k

five_small : (on set : Bool) (pattern : ℕ) → cond on (five_of set pattern) 0 < 0x20
unfolding five_of
five_small true true pattern = omega arith
five_small true false pattern = omega arith
five_small false set pattern = omega arith

dots_small : (c : Controller) (rom : List ℕ) (phase : Phase) (line row digit : ℕ) → dots_at c rom phase line row digit < 0x20
unfolding dots_at cell_dots
dots_small c rom phase line row digit = five_small c.registers.lights.display _ _

pub five_bits_only : FiveBitsOnly
unfolding picture_of line_of Small values
five_bits_only c digits rom phase =
    small_parts _ _ (λ line. small_parts _ _ (λ row. small_parts digits _ (λ d. small_one _ (dots_small c rom phase line row d))))

-- ---- the mark
gap : (c : Cell) (n : ℕ) → 0x28 ≤ n → n < 0x40 → (address_of Two c).0 ≡ n → ⊥
unfolding address_of
gap c n low high =
    split (λ (a : ℕ). a ≡ n → ⊥) (ltb c.0 40) (λ t e. omega (arith, ltb→lt c.0 40 t)) (λ t e. omega arith)

pub gap_marks_nothing : GapMarksNothing
unfolding is_marked
gap_marks_nothing r two low high cell = rw two (ne_eqb _ _ (gap cell (number_on r.counter) low high))
