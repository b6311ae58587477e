-- "The usage log of a 24-night course": the night of a number, or BadNight.
use Rattle.std.specs.Prelude.{ℕ, ◌<◌, Result, MatchResult, ◌≡◌}
use Rattle.refusal.specs.declared.Refusal.{Refusal}
use Rattle.refusal.specs.declared.Refusal.TheVariants.{BadNight}
use Rattle.calls.specs.Nights.{last_night}
use Rattle.calls.specs.declared.nights.Night.{Night}

-- a number above the last night is refused; that a night is one of the course its type says
abbrev pub Numbered : (n : ℕ) → Result Night Refusal → Type 0
Numbered n r = MatchResult r (λ night. night.number ≡ n) (λ refusal. (refusal ≡ BadNight) × (last_night < n))
