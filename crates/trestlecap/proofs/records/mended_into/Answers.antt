-- A mended record has few events.
use Rattle.std.proofs.Common.{◌≡◌, arith}
use Rattle.std.proofs.lemmas.Result.{IfOk-at_ok}
use Rattle.mending.specs.Mend.{told_of}
use Rattle.mending.specs.declared.Mended.{Mended}
use Rattle.trestlecap.proofs.Mended.{kept_few}
use Rattle.trestlecap.proofs.records.mended_into.Goals as goal

pub overflow_cast-kept : goal.overflow_cast-kept
overflow_cast-kept c =
    let Told : Mended → Type 0 = λ told. told ≡ told_of c.args.bytes.now in
    omega (arith, kept_few _ _ (IfOk-at_ok Told c.in_ok-said.was c.mend.ensures.value))
