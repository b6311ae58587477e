-- A refusal, or the three parts, by a law for each.
use Rattle.state.proofs.Promise.{put_refused, put_done}
use Rattle.state.proofs.put.Goals as goal

pub returns-then-out-lt-BYTES : goal.returns-then-out-lt-BYTES
returns-then-out-lt-BYTES c = put_refused _ _ c.if-out-lt-BYTES.true

pub returns : goal.returns
returns c =
    put_done _ _ _ _ c.if-out-lt-BYTES.false c.registers_put-registers.ensures c.put_parts.ensures
