-- Five columns are put, then the wrap; a line has room for both.
use Rattle.std.proofs.Common.{arith}
use Rattle.table.proofs.Columns.{columns_room, line_put}
use Rattle.table.proofs.line.put_line.Goals as goal

pub put_spaced-next-requires : goal.put_spaced-next-requires
put_spaced-next-requires c =
    columns_room c.args.line c.requires.0 (omega arith) (omega arith) _ c.args.out.now c.requires.1

pub returns : goal.returns
returns c =
    line_put c.args.line c.requires.0 (omega arith) (omega arith) _ _ c.requires.1 _ _ c.put_spaced-next.ensures _ _ c.put_number.ensures
