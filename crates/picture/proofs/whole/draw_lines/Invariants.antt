-- The loop puts a line a turn behind those already there.
use Rattle.dots.specs.Dots.{line_of}
use Rattle.lent.proofs.Lists.{Taken}
use Rattle.picture.proofs.whole.draw_lines.Given as goal

abbrev pub invariant-loop-line : goal.invariant-loop-line
invariant-loop-line l =
    Taken (line_of l.drawable.controller l.drawable.digits l.rom l.drawable.phase) l.bytes l.fn.out l.out l.line l.at
