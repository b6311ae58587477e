-- The picture of the part that a record leaves.
use Rattle.std.specs.Prelude.{ℕ, length, Bool, List, ◌≡◌}
use Rattle.dots.specs.Dots.{phase_of}
use Rattle.picture.specs.Answers.{answer_for, buffer_for}
use Rattle.run.specs.Run.{left_by}

-- what `benchmark_picture` promises: the answer and the buffer of `picture`
pub record Drawn (bytes : List ℕ) (digits : ℕ) (rom : List ℕ) (dark : Bool) (out : List ℕ) (number : ℕ) (left : List ℕ) : Type 0 where
  pub answer : number ≡ answer_for (left_by bytes) digits (length rom) (length out)
  pub buffer : left ≡ buffer_for (left_by bytes) digits rom (phase_of dark) out
