-- Answers and effects are had back from what they tell.
use Rattle.std.specs.Prelude.{Result, Ok, Err}
use mathlib.Core.Path.{◌≡◌, refl, ap, sym, ◌∙◌}
use Rattle.condition.proofs.Settled.{settled}
use Rattle.condition.proofs.Tests.{neqb→ne}
use Rattle.refusal.proofs.Settled.{numbers_differ, none_is_done, none_is_first_half}
use Rattle.refusal.specs.declared.Refusal.{Refusal}
use Rattle.controller.specs.Answers.{Said, wrapping, said_of, answered_as}
use Rattle.controller.specs.Theorems.{EffectSettled}
use Rattle.controller.specs.Told.{Told, told_with}
use Rattle.controller.specs.declared.answer.Answer.{Answer}
use Rattle.controller.specs.declared.answer.Reply.{Reply}
use Rattle.controller.specs.declared.answer.Reply.TheVariants.{Done, FirstHalf}
use Rattle.controller.specs.declared.effect.Effect.{Effect}
use Rattle.controller.specs.declared.registers.Registers.{Registers}

-- an answer is had back from its number and its value
pub same_answer : (a b : Result Reply Refusal) → (said_of a).number ≡ (said_of b).number → (said_of a).value ≡ (said_of b).value → a ≡ b
same_answer (Ok (Done v)) (Ok (Done w)) e f = ap (λ x. Ok (Done x)) f
same_answer (Ok (Done v)) (Ok (FirstHalf w)) e f = absurd (neqb→ne 0 20 tt e)
same_answer (Ok (Done v)) (Err s) e f = absurd (none_is_done s (sym e))
same_answer (Ok (FirstHalf v)) (Ok (Done w)) e f = absurd (neqb→ne 20 0 tt e)
same_answer (Ok (FirstHalf v)) (Ok (FirstHalf w)) e f = ap (λ x. Ok (FirstHalf x)) f
same_answer (Ok (FirstHalf v)) (Err s) e f = absurd (none_is_first_half s (sym e))
same_answer (Err r) (Ok (Done w)) e f = absurd (none_is_done r e)
same_answer (Err r) (Ok (FirstHalf w)) e f = absurd (none_is_first_half r e)
same_answer (Err r) (Err s) e f = ap Err (numbers_differ r s e)

answer_for : Result Reply Refusal → Answer
answer_for (Ok (Done v)) = Answer.Done v
answer_for (Ok (FirstHalf v)) = Answer.FirstHalf v
answer_for (Err Refusal.Busy) = Answer.Busy
answer_for (Err Refusal.HalvesDisagree) = Answer.HalvesDisagree
answer_for (Err refusal) = Answer.NoSuchAddress

answer_back : (a : Answer) → answer_for (answered_as a) ≡ a
unfolding answer_for
answer_back (Answer.Done v) = refl
answer_back (Answer.FirstHalf v) = refl
answer_back Answer.Busy = refl
answer_back Answer.HalvesDisagree = refl
answer_back Answer.NoSuchAddress = refl

same_result : (a b : Answer) → answered_as a ≡ answered_as b → a ≡ b
same_result a b e = sym (answer_back a) ∙ ap answer_for e ∙ answer_back b

abbrev said_by : Effect → Said
said_by e = wrapping e.wrap (said_of (answered_as e.answer))

-- two effects with the same registers that tell the same are equal
pub same_effect : (e f : Effect) {r : Registers} {s : Said} → e.registers ≡ r → f.registers ≡ r → said_by e ≡ s → said_by f ≡ s → e ≡ f
same_effect e f p q t u =
    let same : said_by e ≡ said_by f = settled t u in
    let answer = same_result e.answer f.answer (same_answer (answered_as e.answer) (answered_as f.answer) (ap (λ (x : Said). x.number) same) (ap (λ (x : Said). x.value) same)) in
    λ i. record { registers = settled p q i; answer = answer i; wrap = (same i).wrap }

pub effect_settled : EffectSettled
effect_settled e f d m d' m' t p q =
    let same : told_with d m e ≡ told_with d' m' f = settled p q in (
      same_effect e f (ap (λ (x : Told). x.controller.registers) p) (ap (λ (x : Told). x.controller.registers) q) (ap (λ (x : Told). x.said) p) (ap (λ (x : Told). x.said) q),
      ap (λ (x : Told). x.controller.display) same,
      ap (λ (x : Told). x.controller.character) same,
    )
