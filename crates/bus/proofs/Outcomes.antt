-- The ways in which a transfer comes out: a fact of each way is a fact of every transfer.
use Prim.Native.Nat.{ℕ}
use lib.Dec.{T}
use mathlib.Core.Bool.{not}
use mathlib.Core.Path.{subst⁻¹}
use Rattle.condition.proofs.Tests.{split}
use Rattle.controller.specs.Part.{in_range}
use Rattle.controller.specs.Result.{Result, done, forgotten, leaving}
use Rattle.controller.specs.Told.{Told, unchanged}
use Rattle.controller.specs.declared.Controller.{Controller}
use Rattle.controller.specs.declared.registers.Registers.{Registers}
use Rattle.event.specs.declared.Kind.{Kind}
use Rattle.event.specs.declared.Kind.TheVariants.{InstructionWrite, DataWrite, StatusRead, DataRead}
use Rattle.halves.specs.Halves.{is_first, disagrees, completed, answered}
use Rattle.halves.specs.declared.LineCount.{LineCount}
use Rattle.instructions.specs.Instructions.{decode, row_of, obey}
use Rattle.step.proofs.Joined.{bus_joined}
use Rattle.step.specs.Data.{write_data, read_data, read_status, read_of, act}
use Rattle.step.specs.Step.{first_half, on_bus, refused_busy, result_for, stepped}
use Rattle.bus.specs.Events.{waits}
use Rattle.bus.specs.Refusals.{byte_of}
use Rattle.bus.specs.Transfer.{transfer_of, waited_told, wait_of}

-- ---- whole bytes
module _ (P : Result → Type 0) (r : Registers) where
  -- each of the ways in which a whole byte comes out: an instruction is done as its row says, or is refused with 3
  pub record Ways : Type 0 where
    pub obeyed : (n : ℕ) → T (not (row_of (decode n) r).lacks) → P (done (row_of (decode n) r).wrap 0 (row_of (decode n) r).ticks (row_of (decode n) r).effect (row_of (decode n) r).change)
    pub lacking : P (forgotten 3 r)
    pub written : (n : ℕ) → P (write_data r n)
    pub status : (v : ℕ) → P (read_status r v)
    pub read : (v : ℕ) → P (read_data r v)

  pub of_act : Ways → (k : Kind) (n v : ℕ) → P (act k r n v)
  unfolding act obey
  of_act w InstructionWrite n v = split P (row_of (decode n) r).lacks (λ t. w.lacking) (λ t. w.obeyed n t)
  of_act w DataWrite n v = w.written n
  of_act w StatusRead n v = w.status v
  of_act w DataRead n v = w.read v

  module _ (k : Kind) (n : ℕ) where
    of_bus : (b : LineCount) (v : ℕ) → ((x : ℕ) → P (act k r (completed b r.half n) x)) → (T (is_first b r.half) → P (first_half k r n v)) → P (forgotten 2 r)
        → P (on_bus b k r n v)
    of_bus b v acts first disagree =
        subst⁻¹ P (bus_joined k r n v b)
        (split P (disagrees b r.half k) (λ t. disagree) (λ t. split P (is_first b r.half) first (λ u. acts (answered b v))))

    -- refused with 1; the completed byte; a first half; refused with 2
    pub of_step : (b : ℕ) → P (leaving 1 r) → ((x : ℕ) → P (act k r (byte_of r n) x))
        → ((v : ℕ) → T (is_first r.bus r.half) → P (first_half k r n v)) → P (forgotten 2 r) → P (result_for r k n b)
    unfolding result_for
    of_step b busy acts first disagree =
        split P (refused_busy r k) (λ t. busy) (λ t. of_bus r.bus (read_of k r b) acts (first (read_of k r b)) disagree)

-- ---- a transfer and a wait: a step of registers in range, or refused with 16
module _ (P : Told → Type 0) (c : Controller) where
  pub of_transfer : (k : Kind) (n : ℕ) → (T (in_range c.registers) → P (stepped c k n)) → P (unchanged 16 c)
      → P (transfer_of c k n)
  unfolding transfer_of
  of_transfer k n steps outside = split P (in_range c.registers) steps (λ t. outside)

  pub of_wait : (n : ℕ) → (T (in_range c.registers) → P (waited_told c n)) → P (unchanged 16 c) → P (wait_of c n)
  unfolding wait_of
  of_wait n waits outside = split P (in_range c.registers) waits (λ t. outside)
