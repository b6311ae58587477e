-- What is proved of put and take beside the promises.
use Rattle.std.specs.Prelude.{⊤, ℕ, T, length, List, Some, Result, Ok, Err, ◌≡◌}
use Rattle.condition.specs.First.{Exactly}
use Rattle.controller.specs.Part.{in_range}
use Rattle.controller.specs.declared.Controller.{Controller}
use Rattle.refusal.specs.declared.Refusal.{Refusal}
use Rattle.refusal.specs.declared.Refusal.TheVariants.{NotInRange}
use Rattle.state.specs.State.{put_of}
use Rattle.state.specs.Taken.{taken_of, refusals, answer_for, Putting, Taking}

-- a controller in range, whose memories have their sizes, as every controller of the code has
pub record Sound (c : Controller) : Type 0 where
  pub display : length c.display ≡ 80
  pub character : length c.character ≡ 64
  pub ranged : T (in_range c.registers)

-- bytes that `put` makes of a controller in range
pub record Held (bytes : List ℕ) (c : Controller) : Type 0 where
  pub sound : Sound c
  pub put : bytes ≡ put_of c

-- ---- only what is put is taken

abbrev pub TakenExactly : Type 0
TakenExactly = (bytes : List ℕ) (c : Controller) → (taken_of bytes ≡ Some c → Held bytes c) × (Held bytes c → taken_of bytes ≡ Some c)

-- a controller put and taken is the same
abbrev pub PutTaken : Type 0
PutTaken = (c : Controller) → Sound c → taken_of (put_of c) ≡ Some c

-- and no other is put as the same bytes
abbrev pub PutAlone : Type 0
PutAlone = (c k : Controller) → Sound c → Sound k → put_of c ≡ put_of k → c ≡ k

-- ---- "Given exactly when"

-- 6 and 0 for a put
abbrev pub PutGivenExactly : Type 0
PutGivenExactly = (buffer : ℕ) → Exactly (answer_for buffer) (refusals buffer) 0

-- a take finds exactly the controller that the bytes are put of, and 16 where they are put of none in range
abbrev pub TakeGivenExactly : Type 0
TakeGivenExactly =
    (bytes : List ℕ) (r : Result Controller Refusal) → Taking bytes r
    → ((c : Controller) → Held bytes c → r ≡ Ok c)
    × (((c : Controller) → Held bytes c → ⊥) → r ≡ Err NotInRange)

-- ---- any two outcomes that a promise allows are equal

abbrev pub PutSettled : Type 0
PutSettled = (c : Controller) (out : List ℕ) (r r' : Result ⊤ Refusal) (left left' : List ℕ) → Putting c out r left → Putting c out r' left' → (r ≡ r') × (left ≡ left')

abbrev pub TakeSettled : Type 0
TakeSettled = (bytes : List ℕ) (r r' : Result Controller Refusal) → Taking bytes r → Taking bytes r' → r ≡ r'
