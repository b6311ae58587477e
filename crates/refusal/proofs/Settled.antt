-- A refusal is had back from its number, and an answer from its number and what it says where it is done.
use Prim.Native.Nat.{ℕ}
use Rattle.std.specs.Prelude.{Result, Ok, Err, ◌≢◌}
use lib.Dec.{eqb}
use mathlib.Core.Bool.{cond}
use mathlib.Core.Path.{◌≡◌, refl, sym, ap, ◌∙◌}
use Rattle.condition.proofs.Settled.{settled}
use Rattle.condition.proofs.Tests.{neqb→ne}
use Rattle.refusal.specs.Refusals.{number, number_of}
use Rattle.refusal.specs.Theorems.{NumbersDiffer, NoneIsDone, AnswerSettled}
use Rattle.refusal.specs.declared.Refusal.{Refusal}
use Rattle.refusal.specs.declared.Refusal.TheVariants.{Busy, HalvesDisagree, NoSuchAddress, BadDigits, BadImage, ShortBuffer, BadLength, BadVersion, BadEvents, Full, BadNight, BadQuarters, AlreadyWritten, NotInRange, NotReady, BadText, BadVdd, BadSpan}

refusal_of : ℕ → Refusal
refusal_of n =
    cond (eqb n 1) Busy
    (cond (eqb n 2) HalvesDisagree
    (cond (eqb n 3) NoSuchAddress
    (cond (eqb n 4) BadDigits
    (cond (eqb n 5) BadImage
    (cond (eqb n 6) ShortBuffer
    (cond (eqb n 7) BadLength
    (cond (eqb n 8) BadVersion
    (cond (eqb n 9) BadEvents
    (cond (eqb n 10) Full
    (cond (eqb n 11) BadNight
    (cond (eqb n 12) BadQuarters
    (cond (eqb n 13) AlreadyWritten
    (cond (eqb n 16) NotInRange
    (cond (eqb n 17) NotReady
    (cond (eqb n 18) BadText
    (cond (eqb n 21) BadVdd BadSpan))))))))))))))))

refusal_of_number : (r : Refusal) → refusal_of (number r) ≡ r
unfolding refusal_of
refusal_of_number Busy = refl
refusal_of_number HalvesDisagree = refl
refusal_of_number NoSuchAddress = refl
refusal_of_number BadDigits = refl
refusal_of_number BadImage = refl
refusal_of_number ShortBuffer = refl
refusal_of_number BadLength = refl
refusal_of_number BadVersion = refl
refusal_of_number BadEvents = refl
refusal_of_number Full = refl
refusal_of_number BadNight = refl
refusal_of_number BadQuarters = refl
refusal_of_number AlreadyWritten = refl
refusal_of_number NotInRange = refl
refusal_of_number NotReady = refl
refusal_of_number BadText = refl
refusal_of_number BadVdd = refl
refusal_of_number BadSpan = refl

pub numbers_differ : NumbersDiffer
numbers_differ r s e = sym (refusal_of_number r) ∙ ap refusal_of e ∙ refusal_of_number s

pub none_is_done : NoneIsDone
unfolding refusal_of
none_is_done r e = neqb→ne 22 0 tt (sym (ap (λ n. number (refusal_of n)) e) ∙ ap number (refusal_of_number r) ∙ e)

-- nor 20, the number of a first half
pub none_is_first_half : (r : Refusal) → number r ≢ 20
unfolding refusal_of
none_is_first_half r e = neqb→ne 22 20 tt (sym (ap (λ n. number (refusal_of n)) e) ∙ ap number (refusal_of_number r) ∙ e)

-- one number, and one value where both are done
pub answers_settled : {A : Type 0} {r s : Result A Refusal} {n : ℕ} → ((x y : A) → r ≡ Ok x → s ≡ Ok y → x ≡ y) → number_of r ≡ n → number_of s ≡ n → r ≡ s
answers_settled {r = Ok x} {s = Ok y} same e f = ap Ok (same x y refl refl)
answers_settled {r = Ok x} {s = Err s} same e f = absurd (none_is_done s (f ∙ sym e))
answers_settled {r = Err r} {s = Ok y} same e f = absurd (none_is_done r (e ∙ sym f))
answers_settled {r = Err r} {s = Err s} same e f = ap Err (numbers_differ r s (settled e f))

-- or one value that both tell
pub values_settled : {A V : Type 0} {r s : Result A Refusal} {n : ℕ} {v : V} (value : Result A Refusal → V) (back : V → A) → ((x : A) → back (value (Ok x)) ≡ x)
    → number_of r ≡ n → number_of s ≡ n → value r ≡ v → value s ≡ v → r ≡ s
values_settled {r = r} {s = s} value back again e f g h =
    answers_settled {r = r} {s = s} (λ x y p q. sym (again x) ∙ ap (λ t. back (value t)) (sym p) ∙ ap back (settled g h) ∙ ap (λ t. back (value t)) q ∙ again y) e f

pub answer_settled : AnswerSettled
answer_settled n r s e f = answers_settled (λ x y p q. refl) e f
