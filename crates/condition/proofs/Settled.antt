-- A promise that is one equation settles its outcome.
use mathlib.Core.Path.{◌≡◌, sym, ◌∙◌}

pub settled : {A : Type 0} {x r s : A} → r ≡ x → s ≡ x → r ≡ s
settled e f = e ∙ sym f
