-- The promise of the words is one equation.
use Rattle.condition.proofs.Settled.{settled}
use Rattle.view.specs.Theorems.{WordsSettled}

pub words_settled : WordsSettled
words_settled words digits phase form asked other p q = settled p q
