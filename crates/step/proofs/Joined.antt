-- A transfer disagrees with the half that waits, or is a first half, or completes a byte: the one law of halves.
use Prim.Native.Nat.{ℕ, ◌*◌}
use mathlib.Core.Bool.{Bool, true, false, cond, not, false≢true}
use mathlib.Core.Path.{◌≡◌, ◌∙◌, ap, refl, sym}
use Rattle.controller.specs.Memory.{display_after, character_after}
use Rattle.controller.specs.Part.{arranged, awaiting, with}
use Rattle.controller.specs.Result.{Result, forgotten, leaving}
use Rattle.controller.specs.Told.{Told, told_with, addressed, carried}
use Rattle.controller.specs.declared.Controller.{Controller}
use Rattle.controller.specs.declared.answer.Answer.{Answer}
use Rattle.controller.specs.declared.answer.Answer.TheVariants.{FirstHalf}
use Rattle.controller.specs.declared.registers.Registers.{Registers}
use Rattle.counters.specs.declared.counter.Counter.{Counter}
use Rattle.counters.specs.declared.counter.Counter.TheVariants.{Display, Character}
use Rattle.event.specs.Kind.{alike}
use Rattle.event.specs.declared.Kind.{Kind}
use Rattle.event.specs.declared.Kind.TheVariants.{InstructionWrite, DataWrite, StatusRead, DataRead}
use Rattle.halves.specs.Halves.{upper, is_four, held_by, is_first, disagrees, completed, answered}
use Rattle.halves.specs.declared.Half.{Half}
use Rattle.halves.specs.declared.LineCount.{LineCount}
use Rattle.halves.specs.declared.LineCount.TheVariants.{Eight, Four}
use Rattle.instructions.proofs.Rows.{half_is_forgotten}
use Rattle.instructions.specs.Instructions.{decode}
use Rattle.step.specs.Acted.{read_from, acted}
use Rattle.step.specs.Data.{shift_after, status_of, read_of, write_data, read_status, read_data, act}
use Rattle.step.specs.Step.{first_half, second_half, on_four, on_bus, refused_busy, result_for, stepped}
use Rattle.step.specs.Theorems.{BusyLeavesAll}

-- a choice, and the opposite one
cond_not : (b : Bool) (x y : Result) → cond b x y ≡ cond (not b) y x
cond_not true x y = refl
cond_not false x y = refl

module _ (k : Kind) (r : Registers) (n v : ℕ) where
  abbrev pub joined : LineCount → Half → Result
  joined b h = cond (disagrees b h k) (forgotten 2 r) (cond (is_first b h) (first_half k r n v) (act k r (completed b h n) (answered b v)))

  eight_joined : (h : Half) → act k r n v ≡ joined Eight h
  unfolding is_first disagrees completed answered is_four
  eight_joined Half.Nothing = refl
  eight_joined (Half.Waiting w u) = refl

  four_joined : (h : Half) → on_four h k r n v ≡ joined Four h
  unfolding on_four second_half is_first disagrees completed answered is_four
  four_joined Half.Nothing = refl
  four_joined (Half.Waiting w u) = cond_not (alike w k) _ _

  pub bus_joined : (b : LineCount) → on_bus b k r n v ≡ joined b r.half
  unfolding on_bus
  bus_joined Eight = eight_joined r.half
  bus_joined Four = four_joined r.half

-- ---- refused with 1
pub busy_leaves_all : BusyLeavesAll
unfolding result_for
busy_leaves_all r k n b e = ap (λ (x : Bool). cond x (leaving 1 r) (on_bus r.bus k r n (read_of k r b))) e

-- ---- neither the line count nor the half matters to the display and to what is read, nor the half to a whole byte
module _ (r : Registers) (b : LineCount) (h : Half) where
  abbrev rewired : Registers
  rewired = awaiting (arranged r b r.mode) h r.busy

  pub shift_rewired : (k : Counter) → shift_after k rewired ≡ shift_after k r
  unfolding shift_after
  shift_rewired (Display a) = refl
  shift_rewired (Character a) = refl

  pub read_rewired : (k : Kind) (n : ℕ) → read_of k rewired n ≡ read_of k r n
  unfolding read_of status_of
  read_rewired InstructionWrite n = refl
  read_rewired DataWrite n = refl
  read_rewired StatusRead n = refl
  read_rewired DataRead n = refl

act_unhalved : (k : Kind) (r : Registers) (h : Half) (n v : ℕ) → act k (awaiting r h r.busy) n v ≡ act k r n v
unfolding act write_data read_status read_data
act_unhalved InstructionWrite r h n v = half_is_forgotten (decode n) r h
act_unhalved DataWrite r h n v = rw (shift_rewired r r.bus h r.counter)
act_unhalved StatusRead r h n v = refl
act_unhalved DataRead r h n v = refl

-- ---- the three ways of a transfer that is not refused with 1
first_agrees : (b : LineCount) (h : Half) (k : Kind) → is_first b h ≡ true → disagrees b h k ≡ false
unfolding is_first disagrees
first_agrees b Half.Nothing k e = refl
first_agrees b (Half.Waiting w u) k e = absurd (false≢true e)

module _ (c : Controller) (k : Kind) (n : ℕ) (free : refused_busy c.registers k ≡ false) where
  abbrev r : Registers
  r = c.registers

  -- what is told, by the one law
  stepped_joined : stepped c k n ≡ carried c (joined k r n (read_from c k) r.bus r.half)
  unfolding result_for
  stepped_joined = ap (carried c) (rw free (bus_joined k r n (read_from c k) r.bus))

  pub first_steps : {h : Half} {v : ℕ} → is_first r.bus r.half ≡ true → h ≡ Half.Waiting k (held_by k n) → v ≡ upper (read_from c k) * 16
      → told_with c.display c.character (record { registers = awaiting r h r.busy; answer = FirstHalf v; wrap = false }) ≡ stepped c k n
  unfolding first_half display_after character_after
  first_steps e p q = rw (stepped_joined, first_agrees r.bus r.half k e, e, p, q)

  pub disagree_steps : disagrees r.bus r.half k ≡ true
      → told_with c.display c.character (record { registers = awaiting r Half.Nothing r.busy; answer = Answer.HalvesDisagree; wrap = false }) ≡ stepped c k n
  unfolding display_after character_after
  disagree_steps e = rw (stepped_joined, e)

  pub act_steps : {b : ℕ} {t : Told} → is_first r.bus r.half ≡ false → disagrees r.bus r.half k ≡ false → b ≡ completed r.bus r.half n
      → t ≡ acted (with c.display c.character (awaiting r Half.Nothing r.busy)) k b → t ≡ stepped c k n
  act_steps {b} e f p q =
      let v : ℕ = answered r.bus (read_from c k) in
      let comes : act k r b v ≡ joined k r n (read_from c k) r.bus r.half = rw (f, e, p) in
      q
      ∙ ap (λ (x : ℕ). carried c (act k (awaiting r Half.Nothing r.busy) b (answered r.bus x))) (read_rewired r r.bus Half.Nothing k (addressed c))
      ∙ ap (carried c) (act_unhalved k r Half.Nothing b v ∙ comes)
      ∙ sym stepped_joined
