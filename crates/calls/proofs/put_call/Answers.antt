-- A way for each call.
use Rattle.calls.proofs.Calls.{text_is_put, log_is_put}
use Rattle.calls.proofs.put_call.Goals as goal

pub returns-in-Text : goal.returns-in-Text
returns-in-Text c = text_is_put _ _ c.in-Text.is c.put_text_call.ensures

pub returns-in-Log : goal.returns-in-Log
returns-in-Log c = log_is_put _ _ c.in-Log.is c.put_log_call.ensures
