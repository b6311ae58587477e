-- A controller's memories have their sizes.
use Rattle.std.proofs.Common.{◌≡◌, length, rules}
use Rattle.trestlecap.proofs.Held.{put_back}
use Rattle.trestlecap.proofs.keeping.keep.Goals as goal

pub returns : goal.returns
returns c =
    let display : length c.args.controller.display ≡ 80 = search rules in
    let character : length c.args.controller.character ≡ 64 = search rules in
    put_back _ _ c.requires display character _ _ c.put.ensures
