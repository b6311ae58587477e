-- All patterns, and the marked column over them, are the rows of the definition.
use Rattle.std.proofs.Common.{rules}
use Rattle.dots.proofs.Dots.{line_marked, line_unmarked}
use Rattle.dots.proofs.line.draw_line.Goals as goal

pub returns-then-mark-size : goal.returns-then-mark-size
returns-then-mark-size c =
    line_marked _ _ _ _ _ _ _ c.requires.0 c.row_count.ensures.0 c.new-mark.ensures _ c.draw_columns.ensures
    _ c.if-mark-size.true (search rules) c.draw_mark.ensures

pub returns-else-mark-size : goal.returns-else-mark-size
returns-else-mark-size c =
    line_unmarked _ _ _ _ _ _ _ c.requires.0 c.row_count.ensures.0 c.new-mark.ensures _ c.draw_columns.ensures
    c.if-mark-size.false (search rules)
