-- Refused, no events are put; done, those of the call.
use Rattle.course.proofs.Heard.{refused_heard, done_heard}
use Rattle.course.proofs.call.make.Goals as goal

pub returns-in-Err : goal.returns-in-Err
returns-in-Err c = refused_heard _ _ _ _ c.in-Err.ensures _

pub returns-in-Ok : goal.returns-in-Ok
returns-in-Ok c = done_heard _ _ _ c.in-Ok.ensures _ _ _ c.put_call-added.ensures
