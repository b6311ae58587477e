-- A refused picture is printed; of one that is done the dots are there, and their drawing has room.
use Rattle.std.proofs.Common.{◌≡◌, ℕ, List, length, replicate, sym, arith, length-take}
use lib.ListN.{length-replicate}
use Rattle.size.specs.Size.{most_dots}
use Rattle.view.proofs.Shown.{refusal_puts, dots_there, dots_counted, drawing_puts}
use Rattle.view.proofs.put.show.Goals as goal

-- the dots before they are drawn
abbrev blank : List ℕ
blank = replicate most_dots 0

room : length blank ≡ most_dots
room = length-replicate {A = ℕ} most_dots 0

pub slice_bounds-dots-end : goal.slice_bounds-dots-end
slice_bounds-dots-end c =
    let drawn = c.in-Ok.ensures in
    let counted = dots_counted _ c.args.wanted _ blank c.requires.0 room (sym drawn.number) _ _ drawn.buffer c.byte_count-bytes.ensures in
    omega (arith, counted, length-take c.byte_count-bytes.result c.picture.new.out)

pub slice_bounds-draw-end : goal.slice_bounds-draw-end
slice_bounds-draw-end c =
    let drawn = c.in-Ok.ensures in
    sym (dots_counted _ c.args.wanted _ blank c.requires.0 room (sym drawn.number) _ _ drawn.buffer c.byte_count-bytes.ensures)

pub returns-in-Ok : goal.returns-in-Ok
returns-in-Ok c =
    let drawn = c.in-Ok.ensures in
    let there = dots_there _ c.args.wanted _ blank c.requires.0 room (sym drawn.number) _ _ drawn.buffer c.byte_count-bytes.ensures in
    drawing_puts _ c.args.wanted c.args.rom.now blank c.requires.0 room (sym drawn.number) _ _ _ _ _ there c.requires.1 c.draw.ensures c.unwrap_or.ensures

pub returns-in-Err : goal.returns-in-Err
returns-in-Err c = refusal_puts _ c.args.wanted c.args.rom.now blank c.requires.0 room _ c.in-Err.ensures.number _ _ _ _ c.from.ensures c.put_refused.ensures
