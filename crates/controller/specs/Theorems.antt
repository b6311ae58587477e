-- What is proved of answers and effects.
use Rattle.std.specs.Prelude.{ℕ, List, ◌≡◌}
use Rattle.controller.specs.Told.{Told, told_with}
use Rattle.controller.specs.declared.effect.Effect.{Effect}

-- of a call that lends the two memories, any two outcomes of which the same is told are equal: the effect, and each byte of both memories
abbrev pub EffectSettled : Type 0
EffectSettled =
    (e f : Effect) (d m d' m' : List ℕ) (t : Told) → told_with d m e ≡ t → told_with d' m' f ≡ t → (e ≡ f) × (d ≡ d') × (m ≡ m')
