-- Any of the answers, three bytes each, has a third that is not 0.
use Rattle.std.proofs.Common.{rules}
use Rattle.std.proofs.lemmas.Iterator.Search.{any_from_yields_List}
use Rattle.bedside.proofs.Wraps.{wraps, third_of_any, any_of_threes}
use Rattle.bedside.proofs.wrap.any_wrap.Goals as goal

pub returns : goal.returns
returns c =
    any_of_threes _ _
    (any_from_yields_List wraps _ _ _ c.any.ensures.ran (third_of_any _ _ c.chunks_exact.ensures.size c.chunks_exact.ensures.rest) (λ x b q called. search rules))
