-- What is proved of the voltages.
use Rattle.std.specs.Float.Ieee.{is_nan, lt}
use Rattle.std.specs.Float.Ieee.Exact.{HasValue}
use Rattle.std.specs.Prelude.{ℕ, suc, ◌+◌, ◌-◌, ◌*◌, ◌^◌, ◌<◌, ◌≤◌, T, ltb, Float, Result, Ok, cond, not, [], ◌∷◌, ◌≡◌}
use Rattle.condition.specs.First.{Exactly}
use Rattle.refusal.specs.Refusals.{number_of}
use Rattle.refusal.specs.declared.Refusal.{Refusal}
use Rattle.voltages.specs.Answers.{answer_of, refusals, has_vdd, has_span, InRange}
use Rattle.voltages.specs.Voltages.{whole_of, step_of, step_for, divisor_of, drive_of}
use Rattle.voltages.specs.declared.Bias.TheVariants.{Quarter}
use Rattle.voltages.specs.declared.Drive.{Drive}
use Rattle.voltages.specs.declared.Steps.{Steps}
use Rattle.voltages.specs.declared.Steps.TheVariants.{Quarter as quarter_of}

-- each number is given exactly when its rule says
abbrev pub VoltagesGivenExactly : Type 0
VoltagesGivenExactly = (drive : Drive) (r : Result Steps Refusal) → r ≡ answer_of drive → Exactly (number_of r) (refusals drive) 0

-- every voltage is a number, so its bits are settled
abbrev pub VoltagesAreNumbers : Type 0
VoltagesAreNumbers = (drive : Drive) (k : ℕ) → InRange drive → k ≤ divisor_of drive.bias → T (not (is_nan (step_for drive k)))

-- c times the float's value is a - b: a finite number, below 0 where a < b and otherwise not, so that a value of 0 is +0
abbrev pub Equals : Float → (a b c : ℕ) → Type 0
Equals x a b c = HasValue x (ltb a b) (cond (ltb a b) (b - a) (a - b)) c

-- the float's value is within 2 ^ -22 of (a - b) / c: 2 ^ 22 * c times it is `whole` - 2 ^ 22 * b, and `whole` is at most c away from 2 ^ 22 * a
abbrev pub Near : Float → (a b c : ℕ) → Type 0
Near x a b c = (whole : ℕ) × Equals x whole (2 ^ 22 * b) (2 ^ 22 * c) × (2 ^ 22 * a ≤ whole + c) × (whole ≤ 2 ^ 22 * a + c)

-- "256 times it equals 4 times VDD less k times the span"
abbrev pub QuarterExact : Type 0
QuarterExact = (vdd span k : ℕ) → T (has_vdd vdd) → T (has_span span) → k ≤ 4 → Equals (step_of 4 vdd span k) (4 * vdd) (k * span) 256

-- fifth bias is within 2 ^ -22 V of the exact value: 320 times that is 5 times VDD less k times the span
abbrev pub FifthNear : Type 0
FifthNear = (vdd span k : ℕ) → T (has_vdd vdd) → T (has_span span) → k ≤ 5 → Near (step_of 5 vdd span k) (5 * vdd) (k * span) 320

-- step 0 is VDD and the last is V5, which is VDD less the span: both exact
abbrev pub LadderEnds : Type 0
LadderEnds = (drive : Drive) → InRange drive → Equals (step_for drive 0) drive.vdd 0 64 × Equals (step_for drive (divisor_of drive.bias)) drive.vdd drive.span 64

-- the sheet: VDD > V1 > V2 >= V3 > V4 > V5; each step is below the one before, and in quarter bias V2 = V3 is one step
abbrev pub LadderFalls : Type 0
LadderFalls = (drive : Drive) (k : ℕ) → InRange drive → k < divisor_of drive.bias → T (lt (step_for drive (suc k)) (step_for drive k))

-- "Example: VDD 320, span 256, quarter bias gives 4, 3, 2 volts"
abbrev pub RequestExample : Type 0
RequestExample = answer_of (drive_of 320 256 Quarter) ≡ Ok (quarter_of (whole_of 4 ∷ whole_of 3 ∷ whole_of 2 ∷ []))
