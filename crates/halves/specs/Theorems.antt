-- What is proved of halves beside the promises.
use Rattle.std.specs.Prelude.{ℕ, ◌≤◌, T}
use Rattle.event.specs.declared.Kind.{Kind}
use Rattle.halves.specs.Halves.{half_fits, held_by, upper_of, is_first}
use Rattle.halves.specs.declared.Half.{Half}
use Rattle.halves.specs.declared.LineCount.{LineCount}

-- a half that can wait is 0 to 15
abbrev pub UpperFits : Type 0
UpperFits = (b : LineCount) (h : Half) → T (half_fits b h) → upper_of h ≤ 15

-- the half that waits once a first half is taken can wait there
abbrev pub FirstFits : Type 0
FirstFits = (b : LineCount) (h : Half) (k : Kind) (n : ℕ) → T (is_first b h) → T (half_fits b (Half.Waiting k (held_by k n)))
