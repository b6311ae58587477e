-- What is proved of a transfer of registers in range.
use Rattle.std.specs.Prelude.{ℕ, true, ◌≡◌}
use Rattle.controller.specs.Result.{leaving}
use Rattle.controller.specs.declared.registers.Registers.{Registers}
use Rattle.event.specs.declared.Kind.{Kind}
use Rattle.step.specs.Step.{refused_busy, result_for}

-- 1 leaves the whole state: a refused busy write counts as no half, and busy is tested before halves are
abbrev pub BusyLeavesAll : Type 0
BusyLeavesAll = (r : Registers) (k : Kind) (n b : ℕ) → refused_busy r k ≡ true → result_for r k n b ≡ leaving 1 r
