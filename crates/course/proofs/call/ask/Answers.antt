-- A night's line is heard, and no events.
use Rattle.course.proofs.Heard.{look_heard}
use Rattle.course.proofs.call.ask.Goals as goal

pub returns-in-LookUp : goal.returns-in-LookUp
returns-in-LookUp c = look_heard _ _ _ c.in-LookUp.is c.look.ensures
