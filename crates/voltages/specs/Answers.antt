-- "Refusals: 21 VDD out of range, then 22 span out of range": which answer is given.
use Rattle.std.specs.Prelude.{ℕ, T, leb, eqb, Bool, Result, Ok, Err, cond, not, ◌&&◌, List, [], ◌∷◌}
use Rattle.condition.specs.First.{Rule, ◌when◌, first_of}
use Rattle.refusal.specs.declared.Refusal.{Refusal}
use Rattle.refusal.specs.declared.Refusal.TheVariants.{BadVdd, BadSpan}
use Rattle.voltages.specs.Voltages.{step_for, steps_of}
use Rattle.voltages.specs.declared.Drive.{Drive}
use Rattle.voltages.specs.declared.Steps.{Steps}

-- "VDD from 288 to 352, span from 192 to 512"
abbrev pub is_within : (least most n : ℕ) → Bool
is_within least most n = leb least n && leb n most

abbrev pub has_vdd : ℕ → Bool
has_vdd vdd = is_within 288 352 vdd

abbrev pub has_span : ℕ → Bool
has_span span = is_within 192 512 span

-- neither is refused
abbrev pub InRange : Drive → Type 0
InRange drive = T (has_vdd drive.vdd) × T (has_span drive.span)

abbrev pub refusals : Drive → List Rule
refusals drive = (21 when not (has_vdd drive.vdd)) ∷ (22 when not (has_span drive.span)) ∷ []

-- the answer that has a number; 0 carries the voltages
abbrev pub answer_with : (number : ℕ) → Steps → Result Steps Refusal
answer_with number steps = cond (eqb number 21) (Err BadVdd) (cond (eqb number 22) (Err BadSpan) (Ok steps))

unfoldable pub answer_of : Drive → Result Steps Refusal
answer_of drive = answer_with (first_of (refusals drive) 0) (steps_of (step_for drive) drive.bias)
