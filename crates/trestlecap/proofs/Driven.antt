-- Laws of the voltages given to C.
use Prim.Native.Nat.{ℕ}
use Rattle.std.specs.Prelude.{Result, Ok, Err}
use lib.Dec.{eqb}
use lib.Ieee.{Float}
use lib.ListN.{length}
use mathlib.Core.Bool.{Bool, true, false, cond}
use mathlib.Core.List.{List}
use mathlib.Core.Path.{◌≡◌, refl, ap, ◌∙◌}
use Rattle.condition.specs.First.{first_of}
use Rattle.refusal.specs.Refusals.{number, number_of}
use Rattle.refusal.specs.declared.Refusal.{Refusal}
use Rattle.refusal.specs.declared.Refusal.TheVariants.{BadVdd, BadSpan}
use Rattle.voltages.specs.Answers.{refusals, answer_of}
use Rattle.voltages.specs.Voltages.{drive_of, step_for, steps_of}
use Rattle.voltages.specs.declared.Bias.{Bias}
use Rattle.voltages.specs.declared.Bias.TheVariants.{Quarter, Fifth}
use Rattle.voltages.specs.declared.Steps.{Steps}
use Rattle.trestlecap.specs.Called.{listed, listed_or, Driving}
use Rattle.trestlecap.specs.Promises.{voltage_count}

module _ (vdd span : ℕ) (bias : Bias) where
  pub driven : (steps : Steps) → Ok steps ≡ answer_of (drive_of vdd span bias) → (volts : List Float) → Driving vdd span bias volts 0 (listed steps)
  driven steps e volts = record { number = ap number_of e; buffer = ap (listed_or volts) e }

  pub not_driven : (refusal : Refusal) → Err refusal ≡ answer_of (drive_of vdd span bias) → (volts : List Float) → Driving vdd span bias volts (number refusal) volts
  not_driven refusal e volts = record { number = ap number_of e; buffer = ap (listed_or volts) e }

-- ---- quarter bias has three voltages, fifth bias four

count_of : (n : ℕ) → Result Steps Refusal → ℕ
count_of n (Ok steps) = length (listed steps)
count_of n (Err refusal) = n

counted : (b d : Bool) (steps : Steps) → count_of (length (listed steps)) (cond b (Err BadVdd) (cond d (Err BadSpan) (Ok steps))) ≡ length (listed steps)
unfolding count_of
counted true d steps = refl
counted false true steps = refl
counted false false steps = refl

own_count : (vdd span : ℕ) (bias : Bias) → length (listed (steps_of (step_for (drive_of vdd span bias)) bias)) ≡ voltage_count bias
own_count vdd span Quarter = refl
own_count vdd span Fifth = refl

pub step_count : (vdd span : ℕ) (bias : Bias) (steps : Steps) → Ok steps ≡ answer_of (drive_of vdd span bias) → length (listed steps) ≡ voltage_count bias
unfolding answer_of count_of
step_count vdd span bias steps e =
    let drive = drive_of vdd span bias in
    let all : Steps = steps_of (step_for drive) bias in
    let first = first_of (refusals drive) 0 in
    ap (count_of (length (listed all))) e ∙ counted (eqb first 21) (eqb first 22) all ∙ own_count vdd span bias
