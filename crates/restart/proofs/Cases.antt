-- P1 to P11 hold, by computation.
use mathlib.Core.Path.{refl}
use Rattle.bus.specs.Rules.{rules}
use Rattle.dots.specs.Digit.{shown_on}
use Rattle.restart.specs.Examples.{seen, seen_all, found, calm, examples, ExamplesHold}

pub examples_hold : ExamplesHold
unfolding rules shown_on seen seen_all found calm examples
examples_hold = refl
