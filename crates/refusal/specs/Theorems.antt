-- What is proved of refusals and of answers.
use Rattle.std.specs.Prelude.{⊤, ℕ, Result, ◌≡◌, ◌≢◌}
use Rattle.refusal.specs.Refusals.{number, number_of}
use Rattle.refusal.specs.declared.Refusal.{Refusal}

-- no number stands for two refusals,
abbrev pub NumbersDiffer : Type 0
NumbersDiffer = (r s : Refusal) → number r ≡ number s → r ≡ s

-- and 0 for none
abbrev pub NoneIsDone : Type 0
NoneIsDone = (r : Refusal) → number r ≢ 0

-- so its number settles an answer that carries no value where it is done
abbrev pub AnswerSettled : Type 0
AnswerSettled = (n : ℕ) (r s : Result ⊤ Refusal) → number_of r ≡ n → number_of s ≡ n → r ≡ s
