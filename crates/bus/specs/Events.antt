-- Events in order: any list of transfers and waits since switching on.
use Rattle.std.specs.Prelude.{ℕ, ◌+◌, List, [], ◌∷◌}
use Rattle.controller.specs.Answers.{Said}
use Rattle.controller.specs.Part.{switched_on}
use Rattle.controller.specs.Told.{Told}
use Rattle.controller.specs.declared.Controller.{Controller}
use Rattle.event.specs.declared.Event.{Event}
use Rattle.event.specs.declared.Event.TheVariants.{Transfer, Wait}
use Rattle.bus.specs.Transfer.{transfer_of, wait_of}

unfoldable pub told_by : Event → Controller → Told
told_by (Transfer k n) c = transfer_of c k n
told_by (Wait n) c = wait_of c n

-- the controller after the events, one after the other
unfoldable pub after_events : List Event → Controller → Controller
after_events [] c = c
after_events (e ∷ es) c = after_events es (told_by e c).controller

-- the controllers that a part just switched on can come to, halves lost or doubled included
abbrev pub reached : List Event → Controller
reached past = after_events past switched_on

-- all that the events are answered, in order
unfoldable pub said_by : List Event → Controller → List Said
said_by [] c = []
said_by (e ∷ es) c = (told_by e c).said ∷ said_by es (told_by e c).controller

-- ---- waits alone
unfoldable pub waits : List ℕ → Controller → Controller
waits [] c = c
waits (n ∷ ns) c = waits ns (wait_of c n).controller

abbrev pub sum : List ℕ → ℕ
sum [] = 0
sum (n ∷ ns) = n + sum ns
