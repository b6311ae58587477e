-- Every list of transfers and waits, by one transfer and one wait at a time.
use mathlib.Core.List.{[], ◌∷◌}
use Rattle.bus.specs.Transfer.{transfer_of, wait_of}
use Rattle.wiring.specs.Statement.{Given, Waited, AllLike, SameStory, StoryIsTheSame}
use Rattle.wiring.specs.Words.{second_of}
use Rattle.wiring.proofs.Same.{transfer_tells_the_same, wait_tells_the_same}

pub story_is_the_same : StoryIsTheSame
unfolding AllLike SameStory
story_is_the_same [] a eight four e = e
story_is_the_same (Given k n first second ∷ steps) a eight four e =
    let same = transfer_tells_the_same eight four e k n first second a.0 a.1 in
    (same, story_is_the_same steps a.2 (transfer_of eight k n).controller (second_of four k first second).controller same.equal)
story_is_the_same (Waited n ∷ steps) a eight four e =
    let same = wait_tells_the_same eight four e n in
    (same, story_is_the_same steps a (wait_of eight n).controller (wait_of four n).controller same.equal)
