-- "The standard restart": twelve writes with RS = 0, given after waits, and what each is answered.
use Rattle.std.specs.Prelude.{ℕ, zero, suc, ◌+◌, ◌*◌, ◌%◌, ◌<◌, get_or, cond, List, [], ◌∷◌, ◌≡◌}
use Rattle.bus.specs.Events.{waits}
use Rattle.bus.specs.Transfer.{transfer_of}
use Rattle.controller.specs.Answers.{saying}
use Rattle.controller.specs.Part.{longest, in_range}
use Rattle.controller.specs.Told.{Told, unchanged}
use Rattle.controller.specs.declared.Controller.{Controller}
use Rattle.event.specs.declared.Kind.TheVariants.{InstructionWrite}

-- first 3, 3, 3, 2 on the upper lines; then 28, 08, 02, 06 (hex), each as two halves
abbrev pub halves : List ℕ
halves = 3 ∷ 3 ∷ 3 ∷ 2 ∷ 2 ∷ 8 ∷ 0 ∷ 8 ∷ 0 ∷ 2 ∷ 0 ∷ 6 ∷ []

-- one write: the waits before it, and whatever the lower lines hold
pub record Write : Type 0 where
  pub before : List ℕ
  pub lower : ℕ

-- what is told of the write with the upper lines h
unfoldable pub told_of : ℕ → Write → Controller → Told
told_of h w c = transfer_of (waits w.before c) InstructionWrite (h * 16 + w.lower)

-- the writes ws carry the upper lines hs, and before each of them the busy time has been waited out
unfoldable pub Given : List ℕ → List Write → Controller → Type 0
Given [] [] c = Unit {0}
Given [] (w ∷ ws) c = ⊥
Given (h ∷ hs) [] c = ⊥
Given (h ∷ hs) (w ∷ ws) c = (w.lower < 16) × ((waits w.before c).registers.busy ≡ 0) × Given hs ws (told_of h w c).controller

-- the controller after all of the writes
unfoldable pub after : List ℕ → List Write → Controller → Controller
after [] ws c = c
after (h ∷ hs) [] c = c
after (h ∷ hs) (w ∷ ws) c = after hs ws (told_of h w c).controller

-- P holds of what each write is told; the first argument counts the writes
unfoldable pub AtEach : (P : ℕ → Told → Type 0) → ℕ → List ℕ → List Write → Controller → Type 0
AtEach P i [] ws c = Unit {0}
AtEach P i (h ∷ hs) [] c = Unit {0}
AtEach P i (h ∷ hs) (w ∷ ws) c = P i (told_of h w c) × AtEach P (suc i) hs ws (told_of h w c).controller

-- writes with these lower lines, each after a wait of 3,750 ticks
abbrev pub patiently : ℕ → Write
patiently l = record { before = longest ∷ []; lower = l }

unfoldable pub patient : List ℕ → List Write
patient [] = []
patient (l ∷ ls) = patiently l ∷ patient ls

-- four lower lines for each of the upper halves
unfoldable pub FourLines : List ℕ → List ℕ → Type 0
FourLines [] [] = Unit {0}
FourLines [] (l ∷ ls) = ⊥
FourLines (h ∷ hs) [] = ⊥
FourLines (h ∷ hs) (l ∷ ls) = (l < 16) × FourLines hs ls

-- the lower halves of twelve numbers
abbrev pub lower_from : ℕ → ℕ → List ℕ → List ℕ
lower_from i zero ls = []
lower_from i (suc n) ls = (get_or ls i 0 % 16) ∷ lower_from (i + 1) n ls

abbrev pub lower_lines : List ℕ → List ℕ
lower_lines ls = lower_from 0 12 ls

-- the whole restart with these lower lines, each write after a wait of 3,750 ticks: answered 0, or 16 for a controller that is not in range
unfoldable pub restart_of : Controller → List ℕ → Told
restart_of c lower = cond (in_range c.registers) (record { said = saying 0 0; controller = after halves (patient lower) c }) (unchanged 16 c)
