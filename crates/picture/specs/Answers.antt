-- "Refusal numbers": when a picture is refused, and what a call leaves.
use Rattle.std.specs.Prelude.{⊤, ℕ, ltb, eqb, length, not, List, [], ◌∷◌, Result, ◌≡◌}
use Rattle.condition.specs.First.{Rule, ◌when◌, first_of}
use Rattle.controller.specs.Part.{in_range}
use Rattle.controller.specs.declared.Controller.{Controller}
use Rattle.dots.specs.Dots.{image_size}
use Rattle.dots.specs.declared.phase.Phase.{Phase}
use Rattle.lent.specs.Buffer.{unless_refused}
use Rattle.refusal.specs.Refusals.{number_of}
use Rattle.refusal.specs.declared.Refusal.{Refusal}
use Rattle.size.specs.Size.{has_digits, bytes_of}
use Rattle.picture.specs.Picture.{picture_of}

-- 16 first, then the lower number
-- 4: digits 0, above 80 (one line), above 40 (two); 5: ROM image is not 4,096 bytes; 6: lent buffer too short
unfoldable pub refusals : Controller → (digits rom_length out_length : ℕ) → List Rule
refusals c digits rom_length out_length =
    (16 when not (in_range c.registers))
    ∷ (4 when not (has_digits c.registers.mode.lines digits))
    ∷ (5 when not (eqb rom_length image_size))
    ∷ (6 when ltb out_length (bytes_of c.registers.mode digits))
    ∷ []

unfoldable pub answer_for : Controller → (digits rom_length out_length : ℕ) → ℕ
answer_for c digits rom_length out_length = first_of (refusals c digits rom_length out_length) 0

-- exactly lines x rows x digits bytes are written; bytes behind them stay
unfoldable pub buffer_for : Controller → (digits : ℕ) (rom : List ℕ) → Phase → (out : List ℕ) → List ℕ
buffer_for c digits rom phase out =
    unless_refused (answer_for c digits (length rom) (length out)) (picture_of c digits rom phase) out

pub record Pictured (c : Controller) (digits : ℕ) (rom : List ℕ) (phase : Phase) (out : List ℕ) (answer : Result ⊤ Refusal) (left : List ℕ) : Type 0 where
  pub number : number_of answer ≡ answer_for c digits (length rom) (length out)
  pub buffer : left ≡ buffer_for c digits rom phase out
