-- One transfer and one wait of two parts equal but for the line count: answered alike, and the parts are equal but for it again.
use Prim.Native.Nat.{ℕ, ◌*◌, ◌<◌}
use lib.Dec.{T}
use mathlib.Core.Bool.{Bool, true, false, cond, not}
use mathlib.Core.Path.{◌≡◌, refl, subst⁻¹}
use Rattle.bus.specs.Transfer.{transfer_of, waited_told, wait_of}
use Rattle.condition.proofs.Tests.{split}
use Rattle.controller.specs.Answers.{saying, refused}
use Rattle.controller.specs.Part.{waited, in_range}
use Rattle.controller.specs.Result.{Result}
use Rattle.controller.specs.Told.{addressed, carried, unchanged}
use Rattle.controller.specs.declared.Controller.{Controller}
use Rattle.controller.specs.declared.registers.Registers.{Registers}
use Rattle.event.specs.Kind.{is_read}
use Rattle.event.specs.declared.Kind.{Kind}
use Rattle.event.specs.declared.Kind.TheVariants.{InstructionWrite, DataWrite, StatusRead, DataRead}
use Rattle.halves.specs.Halves.{upper, lower, half_fits, answered}
use Rattle.halves.specs.declared.LineCount.TheVariants.{Eight, Four}
use Rattle.instructions.specs.Instructions.{decode, row_of, obey}
use Rattle.step.specs.Acted.{read_from, acted}
use Rattle.step.specs.Data.{write_data, read_data, read_status, read_of, act}
use Rattle.wiring.specs.Statement.{SameTransfer, TransferTellsTheSame, SameWait, WaitTellsTheSame}
use Rattle.wiring.specs.Words.{wired, EqualButForLines, second_of, is_function_set, Agree}
use Rattle.wiring.proofs.Halves.{taken, by_equal, of_halves}
use Rattle.wiring.proofs.Rewired.{result_on, acted_rewired}

-- what holds of a part on eight lines and on four holds of two parts equal but for the line count
pub of_wired : (P : (eight four : Controller) → Type 0) (eight four : Controller) → EqualButForLines eight four → P (wired Eight eight) (wired Four eight) → P eight four
of_wired P eight four e p = subst⁻¹ (P eight) e.four_lines (subst⁻¹ (λ (x : Controller). P x (wired Four eight)) e.eight_lines p)

pub wired_equal : (c : Controller) → EqualButForLines (wired Eight c) (wired Four c)
wired_equal c = record { eight_lines = refl; four_lines = refl }

-- ---- what is answered, and what is left
-- a whole value on eight lines, its two halves on four
values_agree : (k : Kind) (r : Registers) (n b : ℕ)
    → Agree (act k r n (read_of k r b)).said (saying 20 (upper (read_of k r b) * 16)) (act k r n (lower (read_of k r b) * 16)).said
unfolding act obey write_data read_status read_data read_of
values_agree InstructionWrite r n b =
    split (λ (s : Result). Agree s.said (saying 20 0) s.said) (row_of (decode n) r).lacks (λ t. Agree.NoSuchAddress) (λ t. Agree.Done 0 (row_of (decode n) r).wrap)
values_agree DataWrite r n b = Agree.Done 0 _
values_agree StatusRead r n b = Agree.Done (read_of StatusRead r b) _
values_agree DataRead r n b = Agree.Done b _

-- the value that is read does not matter to what is left
value_leaves_the_same : (c : Controller) (k : Kind) (n v w : ℕ) → (carried c (act k c.registers n v)).controller ≡ (carried c (act k c.registers n w)).controller
unfolding act read_status read_data
value_leaves_the_same c InstructionWrite n v w = refl
value_leaves_the_same c DataWrite n v w = refl
value_leaves_the_same c StatusRead n v w = refl
value_leaves_the_same c DataRead n v w = refl

module _ (c : Controller) (k : Kind) (n first : ℕ) where
  -- what the byte comes to where the value v is read
  abbrev comes : (v : ℕ) → Result
  comes v = act k c.registers n v

  abbrev value : ℕ
  value = read_from c k

  abbrev left : Controller
  left = (carried c (comes value)).controller

  comes_the_same : SameTransfer (wired Four c) (carried (wired Eight c) (result_on Eight (comes value))) (taken c k first)
      (carried (wired Four c) (result_on Four (comes (lower value * 16))))
  comes_the_same = record {
    answers = values_agree k c.registers n (addressed c);
    between = refl;
    equal = subst⁻¹ (λ (x : Controller). EqualButForLines (wired Eight left) (wired Four x)) (value_leaves_the_same c k n (lower value * 16) value) (wired_equal left);
  }

  acting_tells_the_same : (T (not (is_read k)) → n < 256) → T (not (is_function_set k n))
      → SameTransfer (wired Four c) (acted (wired Eight c) k n) (taken c k first) (acted (wired Four c) k n)
  unfolding answered
  acting_tells_the_same h t = by_equal (SameTransfer (wired Four c)) (acted_rewired Eight c k n h t) refl (acted_rewired Four c k n h t) comes_the_same

-- a refusal that leaves both parts as they were
refusal_tells_the_same : (c : Controller) (n : ℕ) → Agree (refused n) (refused n) (refused n)
    → SameTransfer (wired Four c) (unchanged n (wired Eight c)) (unchanged n (wired Four c)) (unchanged n (wired Four c))
refusal_tells_the_same c n a = record { answers = a; between = refl; equal = wired_equal c }

pub transfer_tells_the_same : TransferTellsTheSame
transfer_tells_the_same eight four e k n first second like t =
    of_wired (λ x y. SameTransfer y (transfer_of x k n) (transfer_of y k first) (second_of y k first second)) eight four e
    (of_halves eight k n first second like (SameTransfer (wired Four eight))
    (refusal_tells_the_same eight 16 Agree.NotInRange)
    (refusal_tells_the_same eight 1 Agree.Busy)
    (acting_tells_the_same eight k n first (λ w. (like w).byte) t))

-- ---- a wait
pub wait_tells_the_same : WaitTellsTheSame
unfolding wait_of waited in_range half_fits
wait_tells_the_same eight four e n =
    of_wired (λ x y. SameWait (wait_of x n) (wait_of y n)) eight four e (by_test (in_range (wired Eight eight).registers))
  where
    by_test : (t : Bool) → SameWait (cond t (waited_told (wired Eight eight) n) (unchanged 16 (wired Eight eight))) (cond t (waited_told (wired Four eight) n) (unchanged 16 (wired Four eight)))
    by_test true = record { answers = refl; equal = wired_equal (waited_told eight n).controller }
    by_test false = record { answers = refl; equal = wired_equal eight }
