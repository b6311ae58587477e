-- Buffer and number stay as the first picture left them.
use Rattle.std.proofs.Common.{◌≡◌}
use Rattle.refusal.specs.Refusals.{number_of}
use Rattle.benchmark_picture.proofs.benchmark_picture.Given as goal

abbrev pub invariant-loop : goal.invariant-loop
invariant-loop l = (l.out ≡ l.initial.out) × (number_of l.answer ≡ number_of l.initial.answer)
