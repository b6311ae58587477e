-- Each part has its room behind the one before, and the three are the events of the call.
use Rattle.std.proofs.Common.{arith}
use lib.Dec.{lit≤}
use Rattle.calls.proofs.Calls.{text_put}
use Rattle.calls.proofs.Put.{byte_next, data_next}
use Rattle.calls.proofs.text_call.put_text_call.Goals as goal

pub put_data-last-requires : goal.put_data-last-requires
put_data-last-requires c = omega (arith, byte_next _ _ _ c.put_address-first.ensures)

pub put_address-requires : goal.put_address-requires
put_address-requires c = (lit≤ tt, omega (arith, byte_next _ _ _ c.put_address-first.ensures, data_next _ _ c.put_data-last.ensures))

pub returns : goal.returns
returns c =
    let one = byte_next _ _ _ c.put_address-first.ensures in
    text_put _ (omega arith) c.args.line _ (omega (arith, one)) c.line_address.ensures c.put_address-first.ensures c.put_data-last.ensures c.put_address.ensures
