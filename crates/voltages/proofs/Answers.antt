-- Which answer is given, by the two tests, and that each number is given exactly when its rule says.
use Rattle.std.specs.Prelude.{Ok, Err}
use mathlib.Core.Bool.{true, false, Bool, not}
use mathlib.Core.List.{[], ◌∷◌}
use mathlib.Core.Path.{◌≡◌, ◌∙◌, ap, refl, sym}
use Rattle.condition.proofs.First.{first_given_exactly}
use Rattle.condition.proofs.Tests.{holds}
use Rattle.condition.specs.First.{first_of, ◌when◌, absent, distinct}
use Rattle.refusal.specs.Refusals.{number_of}
use Rattle.refusal.specs.declared.Refusal.TheVariants.{BadVdd, BadSpan}
use Rattle.voltages.specs.Answers.{has_vdd, has_span, InRange, answer_of, answer_with, refusals}
use Rattle.voltages.specs.Theorems.{VoltagesGivenExactly}
use Rattle.voltages.specs.Voltages.{step_for, steps_of}
use Rattle.voltages.specs.declared.Drive.{Drive}
use Rattle.voltages.specs.declared.Steps.{Steps}

module _ (drive : Drive) where
  pub vdd_refused : has_vdd drive.vdd ≡ false → Err BadVdd ≡ answer_of drive
  unfolding answer_of first_of
  vdd_refused v = rw v

  pub span_refused : has_vdd drive.vdd ≡ true → has_span drive.span ≡ false → Err BadSpan ≡ answer_of drive
  unfolding answer_of first_of
  span_refused v s = rw (v, s)

  pub steps_given : has_vdd drive.vdd ≡ true → has_span drive.span ≡ true → Ok (steps_of (step_for drive) drive.bias) ≡ answer_of drive
  unfolding answer_of first_of
  steps_given v s = rw (v, s)

  -- an answer with steps is that of numbers in range, and its steps are those of the definition
  pub done_told : (steps : Steps) → Ok steps ≡ answer_of drive → InRange drive × (steps ≡ steps_of (step_for drive) drive.bias)
  done_told steps e = go (has_vdd drive.vdd) (has_span drive.span) refl refl
    where
      go : (v s : Bool) → has_vdd drive.vdd ≡ v → has_span drive.span ≡ s → InRange drive × (steps ≡ steps_of (step_for drive) drive.bias)
      go false s p q = let n = e ∙ sym (vdd_refused p) in cc
      go true false p q = let n = e ∙ sym (span_refused p q) in cc
      go true true p q = let n = e ∙ sym (steps_given p q) in ((holds (has_vdd drive.vdd) p, holds (has_span drive.span) q), (cc))

-- the answer that has the first refusal's number
number_of_answer : (vdd span : Bool) (steps : Steps) →
    let first = first_of ((21 when not vdd) ∷ (22 when not span) ∷ []) 0 in number_of (answer_with first steps) ≡ first
unfolding first_of
number_of_answer false span steps = refl
number_of_answer true false steps = refl
number_of_answer true true steps = refl

pub voltages_given_exactly : VoltagesGivenExactly
unfolding answer_of absent distinct
voltages_given_exactly drive r e =
    rw (ap number_of e ∙ number_of_answer (has_vdd drive.vdd) (has_span drive.span) (steps_of (step_for drive) drive.bias)) (first_given_exactly (refusals drive) 0 tt)
