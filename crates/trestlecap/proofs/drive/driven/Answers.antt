-- As many volts are lent as the bias has steps.
use Rattle.std.proofs.Common.{rules, length, ◌≡◌, arith}
use Rattle.std.specs.Prelude.{Ok}
use Rattle.voltages.specs.Answers.{answer_of}
use Rattle.voltages.specs.Voltages.{drive_of}
use Rattle.voltages.specs.declared.Steps.{Steps}
use Rattle.trestlecap.proofs.Driven.{step_count}
use Rattle.trestlecap.proofs.drive.driven.Goals as goal

pub copy_from_slice-requires : goal.copy_from_slice-requires
copy_from_slice-requires c =
    let told : Ok (Steps.Quarter c.in-Quarter.steps) ≡ answer_of (drive_of c.args.vdd c.args.span c.args.bias) = search rules in
    let three : length c.in-Quarter.steps ≡ 3 = search rules in
    omega (arith, c.requires, three, step_count _ _ _ _ told)

pub copy_from_slice-requires-in-Fifth : goal.copy_from_slice-requires-in-Fifth
copy_from_slice-requires-in-Fifth c =
    let told : Ok (Steps.Fifth c.in-Fifth.steps) ≡ answer_of (drive_of c.args.vdd c.args.span c.args.bias) = search rules in
    let four : length c.in-Fifth.steps ≡ 4 = search rules in
    omega (arith, c.requires, four, step_count _ _ _ _ told)
