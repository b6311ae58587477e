-- What is proved of the words beside their promise.
use Rattle.std.specs.Prelude.{ℕ, Option, List, ◌≡◌}
use Rattle.view.specs.Words.{asked_by}
use Rattle.view.specs.declared.words.Wanted.{Wanted}

-- two outcomes that the promise of the words allows are equal
abbrev pub WordsSettled : Type 0
WordsSettled =
    (words : ℕ) (digits phase form : List ℕ) (asked other : Option Wanted)
    → asked ≡ asked_by words digits phase form
    → other ≡ asked_by words digits phase form
    → asked ≡ other
