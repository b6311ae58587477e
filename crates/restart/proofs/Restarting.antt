-- The twelve writes lead from all registers in range to the same registers, by laws of the transfer and of the instructions.
use Prim.Native.Nat.{ℕ, zero, suc, ◌+◌, ◌*◌, ◌/◌, ◌≤◌, ◌<◌, ◌%◌}
use lib.Dec.{T, not_T, ltb, eqb, eqb→eq, ltb→lt}
use lib.ListN.{drop, take}
use mathlib.Core.Bool.{Bool, true, false, not, ◌||◌}
use mathlib.Core.List.{List, [], ◌∷◌}
use mathlib.Core.Path.{◌≡◌, ◌∙◌, ap, refl, subst⁻¹}
use native.Mathlib.Omega.{arith}
use Rattle.bus.proofs.Free.{freed, on_eight, first_waits, second_completes, other_disagrees}
use Rattle.controller.specs.Memory.{Change}
use Rattle.controller.specs.Part.{awaiting, arranged, fresh_registers}
use Rattle.controller.specs.Result.{Result, forgotten}
use Rattle.controller.specs.declared.registers.Mode.{Mode}
use Rattle.controller.specs.declared.registers.Registers.{Registers}
use Rattle.counters.specs.Address.{line_mode}
use Rattle.counters.specs.declared.LineMode.TheVariants.{Two}
use Rattle.event.specs.declared.Kind.{Kind}
use Rattle.event.specs.declared.Kind.TheVariants.{InstructionWrite, DataWrite, StatusRead, DataRead}
use Rattle.halves.specs.Halves.{upper, is_four, half_fits, line_count}
use Rattle.halves.specs.declared.Half.{Half}
use Rattle.halves.specs.declared.LineCount.{LineCount}
use Rattle.halves.specs.declared.LineCount.TheVariants.{Eight, Four}
use Rattle.instructions.proofs.Decoded.{decoded_by_range}
use Rattle.instructions.proofs.Rows.{leaves_no_half, answers_done_or_three, only_clear_changes, function_set_is_done, function_set_sets_lines, function_set_keeps_memories}
use Rattle.instructions.specs.Instructions.{bit, decode, rearranged, obey}
use Rattle.instructions.specs.declared.instruction.Instruction.{Instruction}
use Rattle.instructions.specs.declared.instruction.Instruction.TheVariants.{FunctionSet}
use Rattle.step.specs.Step.{first_half, result_for}
use Rattle.restart.specs.Compared.{answers}
use Rattle.restart.specs.Polling.{Calm}
use Rattle.restart.specs.Writes.{halves}
use Rattle.restart.proofs.Leads.{step_with, Leads}

-- ---- the bytes of the restart
-- the upper lines 3 and 2 set the line count, whatever the lower lines hold
Sets : ℕ → LineCount → Type 0
Sets h b = (l : ℕ) → l < 16 → (m : Mode) × (decode (h * 16 + l) ≡ FunctionSet b m)

sets : (h : ℕ) (b : LineCount) → (2 ≤ h) × (h ≤ 3) → ((l : ℕ) → l < 16 → line_count (bit 4 (h * 16 + l)) ≡ b) → Sets h b
unfolding Sets
sets h b k e = λ l p.
    let n : ℕ = h * 16 + l in (
      record { lines = line_mode (bit 3 n); tall = bit 2 n },
      (decoded_by_range n).set (omega arith) (omega arith) ∙ ap (λ (x : LineCount). FunctionSet x (record { lines = line_mode (bit 3 n); tall = bit 2 n })) (e l p),
    )

three_sets_eight : Sets 3 Eight
unfolding Sets bit
three_sets_eight = sets 3 Eight (omega arith, omega arith) λ l p. let e : (3 * 16 + l) / 16 % 2 ≡ 1 = omega arith in rw e

two_sets_four : Sets 2 Four
unfolding Sets bit
two_sets_four = sets 2 Four (omega arith, omega arith) λ l p. let e : (2 * 16 + l) / 16 % 2 ≡ 0 = omega arith in rw e

-- ---- what a write may be answered
done_allowed : (i : ℕ) → T (answers i 0)
done_allowed zero = tt
done_allowed (suc i) = tt

half_allowed : (i : ℕ) → T (answers i 20)
half_allowed zero = tt
half_allowed (suc i) = tt

first_allowed : (a b c d : Bool) → T (a || d) → T (a || (b || (c || d)))
first_allowed true b c d t = tt
first_allowed false true c d t = tt
first_allowed false false true d t = tt
first_allowed false false false d t = t

-- ---- the registers that the restart leaves, whatever they were: those of a part just switched on, on four lines, with two lines, after a short instruction
unfoldable pub restarted : Registers
unfolding fresh_registers
restarted = awaiting (arranged fresh_registers Four (record { lines = Two; tall = false })) Half.Nothing 10

unfoldable pub Restarted : Registers → Type 0
Restarted r = r ≡ restarted

unfoldable pub Allowed : ℕ → ℕ → Type 0
Allowed i m = T (answers i m)

upper_is : (h l : ℕ) → h < 16 → l < 16 → upper (h * 16 + l) ≡ h
upper_is h l p q = omega arith

-- whatever half waited, the half 3 completes no Clear
never_clear : (u : ℕ) → T (not (eqb (u * 16 + 3) 0x01))
never_clear u = not_T (eqb (u * 16 + 3) 0x01) λ t. let e : u * 16 + 3 ≡ 0x01 = eqb→eq (u * 16 + 3) 0x01 t in omega arith

-- ---- the writes lead to Q
module _ (Q : Registers → Type 0) where
  To : ℕ → List ℕ → Registers → Type 0
  To i hs r = Leads Allowed Q i hs r

  arrived : (i : ℕ) (r : Registers) → Q r → To i [] r
  unfolding To Leads
  arrived i r q = q

  -- a step that is known to come to s
  leads_by : (i : ℕ) (hs : List ℕ) (x s : Result) → x ≡ s → s.change ≡ Change.Nothing → T (answers i s.said.number) → To (suc i) hs s.registers
      → (x.change ≡ Change.Nothing) × Allowed i x.said.number × Leads Allowed Q (suc i) hs x.registers
  unfolding To Allowed
  leads_by i hs x s e m a go =
      subst⁻¹ (λ (y : Result). (y.change ≡ Change.Nothing) × T (answers i y.said.number) × Leads Allowed Q (suc i) hs y.registers) e (m, a, go)

  -- on eight lines: a function set
  eight_leads : (i h : ℕ) (b : LineCount) (hs : List ℕ) (r : Registers) → Sets h b → r.bus ≡ Eight
      → ((s : Registers) → s.bus ≡ b → s.half ≡ Half.Nothing → To (suc i) hs s) → To i (h ∷ hs) r
  unfolding To Leads Sets
  eight_leads i h b hs r sets e go = λ l x p.
      let m : Mode = (sets l p).0 in
      leads_by i hs (step_with h l x r) (obey (FunctionSet b m) (freed r))
      (on_eight r (h * 16 + l) x e ∙ ap (λ (j : Instruction). obey j (freed r)) (sets l p).1)
      (function_set_keeps_memories b m (freed r))
      (subst⁻¹ (λ (n : ℕ). T (answers i n)) (function_set_is_done b m (freed r)) (done_allowed i))
      (go (obey (FunctionSet b m) (freed r)).registers (function_set_sets_lines b m (freed r)) (leaves_no_half (FunctionSet b m) (freed r)))

  -- on four lines with no half: the first half waits
  first_leads : (i h : ℕ) (hs : List ℕ) (r : Registers) → h < 16 → r.bus ≡ Four → r.half ≡ Half.Nothing
      → To (suc i) hs (awaiting r (Half.Waiting InstructionWrite h) 0) → To i (h ∷ hs) r
  unfolding To Leads first_half
  first_leads i h hs r k e f go = λ l x p.
      leads_by i hs (step_with h l x r) (first_half InstructionWrite (freed r) (h * 16 + l) 0) (first_waits r (h * 16 + l) x e f) refl (half_allowed i)
      (subst⁻¹ (λ (u : ℕ). To (suc i) hs (awaiting r (Half.Waiting InstructionWrite u) 0)) (upper_is h l k p) go)

  -- the half of an instruction is completed to a byte that is no Clear
  second_leads : (i u h : ℕ) (hs : List ℕ) (r : Registers) → h < 16 → r.bus ≡ Four → r.half ≡ Half.Waiting InstructionWrite u
      → T (not (eqb (u * 16 + h) 0x01)) → T (answers i (obey (decode (u * 16 + h)) (freed r)).said.number)
      → To (suc i) hs (obey (decode (u * 16 + h)) (freed r)).registers → To i (h ∷ hs) r
  unfolding To Leads
  second_leads i u h hs r k e f n a go = λ l x p.
      leads_by i hs (step_with h l x r) (obey (decode (u * 16 + h)) (freed r))
      (second_completes r (h * 16 + l) x u e f ∙ ap (λ (m : ℕ). obey (decode (u * 16 + m)) (freed r)) (upper_is h l k p))
      (only_clear_changes (u * 16 + h) (freed r) n)
      a
      go

  -- a byte as two halves
  byte_leads : (i u h : ℕ) (hs : List ℕ) (r : Registers) → T (ltb u 16) → T (ltb h 16) → T (not (eqb (u * 16 + h) 0x01)) → r.bus ≡ Four
      → r.half ≡ Half.Nothing → T (answers (suc i) (obey (decode (u * 16 + h)) (freed (awaiting r (Half.Waiting InstructionWrite u) 0))).said.number)
      → To (suc (suc i)) hs (obey (decode (u * 16 + h)) (freed (awaiting r (Half.Waiting InstructionWrite u) 0))).registers → To i (u ∷ h ∷ hs) r
  byte_leads i u h hs r p q n e f a go =
      first_leads i u (h ∷ hs) r (ltb→lt u 16 p) e f
      (second_leads (suc i) u h hs (awaiting r (Half.Waiting InstructionWrite u) 0) (ltb→lt h 16 q) e refl n a go)

  -- ---- 3, 3, 3, 2, where the rest leads on from four lines with no half waiting
  module _ (hs : List ℕ) (go : (s : Registers) → s.bus ≡ Four → s.half ≡ Half.Nothing → To 4 hs s) where
    -- behind the first 3, from registers with no half
    no_half_leads : (b : LineCount) (r : Registers) → r.bus ≡ b → r.half ≡ Half.Nothing → To 1 (3 ∷ 3 ∷ 2 ∷ hs) r
    unfolding decode bit rearranged obey
    no_half_leads Eight r e f =
        eight_leads 1 3 Eight (3 ∷ 2 ∷ hs) r three_sets_eight e λ s d g.
        eight_leads 2 3 Eight (2 ∷ hs) s three_sets_eight d λ s' d' g'.
        eight_leads 3 2 Four hs s' two_sets_four d' go
    no_half_leads Four r e f = byte_leads 1 3 3 (2 ∷ hs) r tt tt tt e f tt (eight_leads 3 2 Four hs _ two_sets_four refl go)

    -- a half of another kind is forgotten
    other_leads : (r : Registers) → ((n x : ℕ) → result_for (freed r) InstructionWrite n x ≡ forgotten 2 (freed r)) → r.bus ≡ Four → To 0 (3 ∷ 3 ∷ 3 ∷ 2 ∷ hs) r
    unfolding To Leads
    other_leads r e d = λ l x p.
        leads_by 0 (3 ∷ 3 ∷ 2 ∷ hs) (step_with 3 l x r) (forgotten 2 (freed r)) (e (3 * 16 + l) x) refl tt (no_half_leads Four (awaiting r Half.Nothing 0) d refl)

    -- whatever the half of an instruction is completed to
    instruction_leads : (u : ℕ) (r : Registers) → r.bus ≡ Four → r.half ≡ Half.Waiting InstructionWrite u → To 0 (3 ∷ 3 ∷ 3 ∷ 2 ∷ hs) r
    instruction_leads u r e f =
        let i : Instruction = decode (u * 16 + 3) in
        let m : ℕ = (obey i (freed r)).said.number in
        second_leads 0 u 3 (3 ∷ 3 ∷ 2 ∷ hs) r (ltb→lt 3 16 tt) e f (never_clear u)
        (first_allowed (eqb m 0) (eqb m 20) (eqb m 2) (eqb m 3) (answers_done_or_three i (freed r)))
        (no_half_leads (obey i (freed r)).registers.bus (obey i (freed r)).registers refl (leaves_no_half i (freed r)))

    waiting_leads : (w : Kind) (u : ℕ) (r : Registers) → r.bus ≡ Four → r.half ≡ Half.Waiting w u → To 0 (3 ∷ 3 ∷ 3 ∷ 2 ∷ hs) r
    waiting_leads InstructionWrite u r e f = instruction_leads u r e f
    waiting_leads DataWrite u r e f = other_leads r (λ n x. other_disagrees r n x DataWrite u refl e f) e
    waiting_leads StatusRead u r e f = other_leads r (λ n x. other_disagrees r n x StatusRead u refl e f) e
    waiting_leads DataRead u r e f = other_leads r (λ n x. other_disagrees r n x DataRead u refl e f) e

    -- from every line count and every half
    head_leads : (b : LineCount) (h : Half) (r : Registers) → r.bus ≡ b → r.half ≡ h → T (half_fits b h) → Leads Allowed Q 0 (3 ∷ 3 ∷ 3 ∷ 2 ∷ hs) r
    unfolding To half_fits is_four decode bit rearranged obey
    head_leads Eight Half.Nothing r e f t = eight_leads 0 3 Eight (3 ∷ 3 ∷ 2 ∷ hs) r three_sets_eight e (no_half_leads Eight)
    head_leads Eight (Half.Waiting w u) r e f t = absurd t
    head_leads Four Half.Nothing r e f t =
        byte_leads 0 3 3 (3 ∷ 2 ∷ hs) r tt tt tt e f tt
        (eight_leads 2 3 Eight (2 ∷ hs) _ three_sets_eight refl λ s d g. eight_leads 3 2 Four hs s two_sets_four d go)
    head_leads Four (Half.Waiting w u) r e f t = waiting_leads w u r e f

-- ---- 28, 08, 02, 06
bytes_lead : (r : Registers) → r.bus ≡ Four → r.half ≡ Half.Nothing → To Restarted 4 (drop 4 halves) r
unfolding Restarted restarted decode bit rearranged obey
bytes_lead r e f =
    byte_leads Restarted _ _ _ _ r tt tt tt e f tt
    (byte_leads Restarted _ _ _ _ _ tt tt tt refl refl tt
    (byte_leads Restarted _ _ _ _ _ tt tt tt refl refl tt
    (byte_leads Restarted _ _ _ _ _ tt tt tt refl refl tt (arrived Restarted _ _ refl))))

pub restart_leads : (r : Registers) → T (half_fits r.bus r.half) → Leads Allowed Restarted 0 halves r
restart_leads r t = head_leads Restarted (drop 4 halves) bytes_lead r.bus r.half r refl refl t

-- ---- behind 3, 3, 3, 2 and behind each byte the part is on four lines, and no half waits
calm : (i : ℕ) (r : Registers) → r.bus ≡ Four → r.half ≡ Half.Nothing → To Calm i [] r
calm i r e f = arrived Calm i r (record { four = e; nothing_waits = f })

calm_bytes : (bytes : ℕ) (r : Registers) → bytes ≤ 4 → r.bus ≡ Four → r.half ≡ Half.Nothing → To Calm 4 (take (2 * bytes) (drop 4 halves)) r
unfolding decode bit rearranged obey
calm_bytes zero r h e f = calm _ r e f
calm_bytes (suc zero) r h e f = byte_leads Calm _ _ _ _ r tt tt tt e f tt (calm _ _ refl refl)
calm_bytes (suc (suc zero)) r h e f =
    byte_leads Calm _ _ _ _ r tt tt tt e f tt (byte_leads Calm _ _ _ _ _ tt tt tt refl refl tt (calm _ _ refl refl))
calm_bytes (suc (suc (suc zero))) r h e f =
    byte_leads Calm _ _ _ _ r tt tt tt e f tt
    (byte_leads Calm _ _ _ _ _ tt tt tt refl refl tt (byte_leads Calm _ _ _ _ _ tt tt tt refl refl tt (calm _ _ refl refl)))
calm_bytes (suc (suc (suc (suc zero)))) r h e f =
    byte_leads Calm _ _ _ _ r tt tt tt e f tt
    (byte_leads Calm _ _ _ _ _ tt tt tt refl refl tt
    (byte_leads Calm _ _ _ _ _ tt tt tt refl refl tt (byte_leads Calm _ _ _ _ _ tt tt tt refl refl tt (calm _ _ refl refl))))
calm_bytes (suc (suc (suc (suc (suc n))))) r h e f = absurd (omega arith)

-- 3, 3, 3, 2 and so many bytes
taken : (bytes : ℕ) → bytes ≤ 4 → take (4 + 2 * bytes) halves ≡ 3 ∷ 3 ∷ 3 ∷ 2 ∷ take (2 * bytes) (drop 4 halves)
taken zero h = refl
taken (suc zero) h = refl
taken (suc (suc zero)) h = refl
taken (suc (suc (suc zero))) h = refl
taken (suc (suc (suc (suc zero)))) h = refl
taken (suc (suc (suc (suc (suc n))))) h = absurd (omega arith)

pub calm_leads : (bytes : ℕ) (r : Registers) → bytes ≤ 4 → T (half_fits r.bus r.half) → Leads Allowed Calm 0 (take (4 + 2 * bytes) halves) r
calm_leads bytes r h t =
    subst⁻¹ (λ (hs : List ℕ). Leads Allowed Calm 0 hs r) (taken bytes h)
    (head_leads Calm (take (2 * bytes) (drop 4 halves)) (λ s. calm_bytes bytes s h) r.bus r.half r refl refl t)
