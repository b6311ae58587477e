-- Four lines and eight lines tell the same story: two parts equal but for the line count, given the same transfers, on four lines
-- each as two like halves, and the same waits, are answered alike, the wrap included, and are again equal but for the line count after each.
use Rattle.std.specs.Prelude.{ℕ, T, not, List, [], ◌∷◌, ◌↔◌, ◌≡◌}
use Rattle.bus.specs.Events.{reached}
use Rattle.bus.specs.Theorems.{halved}
use Rattle.bus.specs.Transfer.{transfer_of, wait_of}
use Rattle.controller.specs.Answers.{Said}
use Rattle.controller.specs.Part.{longest}
use Rattle.controller.specs.Told.{Told}
use Rattle.controller.specs.declared.Controller.{Controller}
use Rattle.event.specs.declared.Event.TheVariants.{Transfer, Wait}
use Rattle.event.specs.declared.Kind.{Kind}
use Rattle.event.specs.declared.Kind.TheVariants.{InstructionWrite}
use Rattle.wiring.specs.Words.{EqualButForLines, HalvesOf, LikeHalves, second_of, is_function_set, Agree, AgreeExactly}

-- ---- one transfer
-- what the eight-line part is told of it, and the other, `four`, of its first and its second half
pub record SameTransfer (four : Controller) (whole first second : Told) : Type 0 where
  pub answers : Agree whole.said first.said second.said
  -- the first half changes nothing but the half that waits,
  pub between : first.controller ≡ halved four first.controller.registers.half
  -- and both halves together come to what the one transfer does
  pub equal : EqualButForLines whole.controller second.controller

abbrev pub TransferTellsTheSame : Type 0
TransferTellsTheSame =
    (eight four : Controller) → EqualButForLines eight four → (k : Kind) (n first second : ℕ) → LikeHalves k n first second → T (not (is_function_set k n))
    → SameTransfer four (transfer_of eight k n) (transfer_of four k first) (second_of four k first second)

-- answers that agree are each given exactly when the table says
abbrev pub AgreeGivenExactly : Type 0
AgreeGivenExactly = (eight first second : Said) → Agree eight first second → AgreeExactly eight first second

-- ---- one wait
pub record SameWait (eight four : Told) : Type 0 where
  pub answers : four.said ≡ eight.said
  pub equal : EqualButForLines eight.controller four.controller

abbrev pub WaitTellsTheSame : Type 0
WaitTellsTheSame = (eight four : Controller) → EqualButForLines eight four → (n : ℕ) → SameWait (wait_of eight n) (wait_of four n)

-- ---- every list of them
-- one step: a transfer of n, on four lines two with the numbers first and second; or a wait of n ticks
pub data Step : Type 0 where
  Given : Kind → (n first second : ℕ) → Step
  Waited : (n : ℕ) → Step

-- each transfer as two like halves, and no function set among them
unfoldable pub AllLike : List Step → Type 0
AllLike [] = Unit {0}
AllLike (Given k n first second ∷ steps) = LikeHalves k n first second × T (not (is_function_set k n)) × AllLike steps
AllLike (Waited n ∷ steps) = AllLike steps

-- step by step: what both are told, side by side, and the rest of the story from what it leaves of both
unfoldable pub SameStory : List Step → (eight four : Controller) → Type 0
SameStory [] eight four = EqualButForLines eight four
SameStory (Given k n first second ∷ steps) eight four =
    SameTransfer four (transfer_of eight k n) (transfer_of four k first) (second_of four k first second)
    × SameStory steps (transfer_of eight k n).controller (second_of four k first second).controller
SameStory (Waited n ∷ steps) eight four =
    SameWait (wait_of eight n) (wait_of four n) × SameStory steps (wait_of eight n).controller (wait_of four n).controller

abbrev pub StoryIsTheSame : Type 0
StoryIsTheSame = (steps : List Step) → AllLike steps → (eight four : Controller) → EqualButForLines eight four → SameStory steps eight four

-- ---- why a function set is left out, and nothing else
-- one that is done makes the two one and the same part, line count included
abbrev pub FunctionSetMakesOne : Type 0
FunctionSetMakesOne =
    (eight four : Controller) → EqualButForLines eight four → (n first second : ℕ) → HalvesOf n first second → T (is_function_set InstructionWrite n)
    → (transfer_of eight InstructionWrite n).said.number ≡ 0
    → (second_of four InstructionWrite first second).controller ≡ (transfer_of eight InstructionWrite n).controller

-- after any transfer that is done, the parts are equal but for the line count exactly when it is no function set
abbrev pub LeftOutExactly : Type 0
LeftOutExactly =
    (eight four : Controller) → EqualButForLines eight four → (k : Kind) (n first second : ℕ) → LikeHalves k n first second → (transfer_of eight k n).said.number ≡ 0
    → EqualButForLines (transfer_of eight k n).controller (second_of four k first second).controller ↔ T (not (is_function_set k n))

-- for instance 20 hex, given to two boards just switched on, of which one was given 38 and one 28
abbrev pub board : (function_set : ℕ) → Controller
board n = reached (Wait longest ∷ Transfer InstructionWrite n ∷ Wait longest ∷ [])

pub record FunctionSetExample : Type 0 where
  pub before : EqualButForLines (board 0x38) (board 0x28)
  pub after : ¬ EqualButForLines (transfer_of (board 0x38) InstructionWrite 0x20).controller (second_of (board 0x28) InstructionWrite 0x20 0x00).controller
