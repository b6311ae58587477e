-- A picture over itself leaves it, with the same number.
use Rattle.std.proofs.Common.{◌≡◌, length, rules}
use Rattle.benchmark_picture.proofs.Again.{drawn_again, answered_again}
use Rattle.benchmark_picture.proofs.benchmark_picture.Goals as goal

pub loop-preserved : goal.loop-preserved
loop-preserved c =
    let same : length c.picture-answer.new.out ≡ length c.args.out.now = search rules in
    let second = rw c.loop.invariant.0 at c.picture-answer-in-loop.ensures in (
      drawn_again _ _ _ _ _ _ _ c.picture-answer.ensures same _ _ second,
      answered_again _ _ _ _ _ _ _ c.picture-answer.ensures same _ _ second,
    )
