-- A function set that is done leaves one and the same part on either number of lines, so it is left out, and nothing else is.
use Prim.Native.Nat.{ℕ, ◌≤◌}
use lib.Dec.{T, leb, leb→le, lit≤, not_T}
use mathlib.Core.Bool.{not, false≢true}
use mathlib.Core.Path.{◌≡◌, ◌∙◌, ap, refl, sym}
use native.Mathlib.Omega.{arith}
use Rattle.bus.specs.Rules.{rules}
use Rattle.bus.specs.Transfer.{transfer_of}
use Rattle.condition.proofs.Tests.{and_left, and_right}
use Rattle.controller.specs.Told.{carried}
use Rattle.controller.specs.declared.Controller.{Controller}
use Rattle.event.specs.declared.Kind.{Kind}
use Rattle.event.specs.declared.Kind.TheVariants.{InstructionWrite, DataWrite, StatusRead, DataRead}
use Rattle.halves.specs.Halves.{is_four}
use Rattle.halves.specs.declared.LineCount.TheVariants.{Eight, Four}
use Rattle.instructions.proofs.Decoded.{decoded_by_range}
use Rattle.instructions.specs.Instructions.{rearranged, obey}
use Rattle.instructions.specs.declared.instruction.Instruction.{Instruction}
use Rattle.step.specs.Acted.{acted}
use Rattle.step.specs.Data.{act}
use Rattle.wiring.specs.Statement.{FunctionSetMakesOne, LeftOutExactly, board, FunctionSetExample}
use Rattle.wiring.specs.Words.{on_lines, wired, EqualButForLines, HalvesOf, LikeHalves, second_of, is_function_set}
use Rattle.wiring.proofs.Halves.{of_halves}
use Rattle.wiring.proofs.Same.{of_wired, wired_equal, transfer_tells_the_same}

-- a part is not equal but for the line count to itself
not_equal_to_itself : (eight four : Controller) → four ≡ eight → ¬ EqualButForLines eight four
unfolding is_four
not_equal_to_itself eight four e f = false≢true (four_of (sym f.eight_lines) ∙ four_of (sym e) ∙ four_of f.four_lines)
  where
    four_of : {c d : Controller} → c ≡ d → is_four c.registers.bus ≡ is_four d.registers.bus
    four_of e = ap (λ (c : Controller). is_four c.registers.bus) e

-- ---- every function set
set_leaves_the_same : (c : Controller) (n : ℕ) → T (is_function_set InstructionWrite n) → (acted (wired Four c) InstructionWrite n).controller ≡ (acted (wired Eight c) InstructionWrite n).controller
unfolding act obey rearranged
set_leaves_the_same c n t =
    let l : 0x20 ≤ n = leb→le 0x20 n (and_left (leb 0x20 n) (leb n 0x3F) t) in
    let u : n ≤ 0x3F = leb→le n 0x3F (and_right (leb 0x20 n) (leb n 0x3F) t) in
    let set = (decoded_by_range n).set l (omega arith) in
    ap (λ (i : Instruction). (carried (wired Four c) (obey i (on_lines Four c.registers))).controller) set
    ∙ ap (λ (i : Instruction). (carried (wired Eight c) (obey i (on_lines Eight c.registers))).controller) (sym set)

pub function_set_makes_one : FunctionSetMakesOne
function_set_makes_one eight four e n first second h t =
    of_wired (λ x y. (transfer_of x InstructionWrite n).said.number ≡ 0 → (second_of y InstructionWrite first second).controller ≡ (transfer_of x InstructionWrite n).controller) eight four e
    (of_halves eight InstructionWrite n first second (λ w. h) (λ whole _ last. whole.said.number ≡ 0 → last.controller ≡ whole.controller)
    (λ z. absurd (omega (arith, z)))
    (λ z. absurd (omega (arith, z)))
    (λ z. set_leaves_the_same eight n t))

-- ---- and nothing else
no_set_where_equal : (eight four : Controller) → EqualButForLines eight four → (k : Kind) (n first second : ℕ) → LikeHalves k n first second → (transfer_of eight k n).said.number ≡ 0
    → EqualButForLines (transfer_of eight k n).controller (second_of four k first second).controller → T (not (is_function_set k n))
no_set_where_equal eight four e InstructionWrite n first second h z f =
    not_T (is_function_set InstructionWrite n) (λ t. not_equal_to_itself _ _ (function_set_makes_one eight four e n first second (h tt) t z) f)
no_set_where_equal eight four e DataWrite n first second h z f = tt
no_set_where_equal eight four e StatusRead n first second h z f = tt
no_set_where_equal eight four e DataRead n first second h z f = tt

pub left_out_exactly : LeftOutExactly
left_out_exactly eight four e k n first second h z = (no_set_where_equal eight four e k n first second h z, λ t. (transfer_tells_the_same eight four e k n first second h t).equal)

-- ---- 20 hex
pub function_set_example : FunctionSetExample
unfolding rules
function_set_example =
    let before : EqualButForLines (board 0x38) (board 0x28) = wired_equal (board 0x38) in
    let halves : HalvesOf 0x20 0x20 0x00 = record { byte = lit≤ tt; upper_half = refl; lower_half = refl } in
    record {
      before = before;
      after = λ f. (left_out_exactly (board 0x38) (board 0x28) before InstructionWrite 0x20 0x20 0x00 (λ w. halves) refl).0 f;
    }
