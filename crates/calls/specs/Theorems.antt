-- What is proved of nights beside the promises.
use Rattle.std.specs.Prelude.{ℕ, Result, ◌≡◌}
use Rattle.refusal.specs.declared.Refusal.{Refusal}
use Rattle.calls.specs.Numbered.{Numbered}
use Rattle.calls.specs.declared.nights.Night.{Night}

-- ---- any two outcomes that a promise allows are equal

abbrev pub NightSettled : Type 0
NightSettled = (n : ℕ) (r r' : Result Night Refusal) → Numbered n r → Numbered n r' → r ≡ r'
