-- Any two outcomes that a promise allows are equal.
use Prim.Native.Nat.{◌≤◌}
use Rattle.std.specs.Prelude.{Ok, Err}
use mathlib.Core.HLevel.{is_prop→PathP}
use mathlib.Core.Path.{◌≡◌, ap}
use native.Mathlib.Bridge.{le_prop}
use native.Mathlib.Omega.{arith}
use Rattle.condition.proofs.Settled.{settled}
use Rattle.calls.specs.Nights.{last_night}
use Rattle.calls.specs.Theorems.{NightSettled}
use Rattle.calls.specs.declared.nights.Night.{Night}

-- two proofs that a number is one of the course are equal
same_night : (night night' : Night) → night.number ≡ night'.number → night ≡ night'
same_night night night' e = λ i. record { number = e i; in_course = is_prop→PathP (λ j. e j ≤ last_night) (λ j. le_prop) night.in_course night'.in_course i }

pub night_settled : NightSettled
night_settled n (Ok night) (Ok night') p p' = ap Ok (same_night night night' (settled p p'))
night_settled n (Ok night) (Err refusal) p p' = absurd (omega (arith, p, night.in_course, p'.1))
night_settled n (Err refusal) (Ok night) p p' = absurd (omega (arith, p', night.in_course, p.1))
night_settled n (Err refusal) (Err refusal') p p' = ap Err (settled p.0 p'.0)
