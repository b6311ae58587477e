-- Past an end: a call that is done says yes for night 23, and for nothing else.
use Prim.Native.Nat.{ℕ}
use lib.Dec.{T, eqb, eqb→eq}
use lib.ListN.{length}
use mathlib.Core.Bool.{Bool, true, false, cond, ◌&&◌, and-false}
use mathlib.Core.List.{List, []}
use mathlib.Core.Path.{◌≡◌, ◌∙◌, refl}
use Rattle.bedside.specs.Panel.{call_wraps}
use Rattle.bedside.specs.Refusals.{call_answer}
use Rattle.calls.specs.declared.Call.{Call}
use Rattle.calls.specs.declared.Call.TheVariants.{Text, Log}
use Rattle.controller.specs.declared.Controller.{Controller}
use Rattle.record.specs.Reading.{AllSmall}
use Rattle.usage_log.specs.Theorems.{TextNeverWraps, LoggingWrapsExactly}
use Rattle.usage_log.proofs.Called.{last_of_lines, taken_comes}
use Rattle.usage_log.proofs.Kept.{no_characters}

where_done : (b : Bool) {x y : Bool} → (T b → x ≡ y) → cond b x false ≡ (b && y)
where_done true e = e tt
where_done false e = refl

call_wraps_lem : (c : Controller) (call : Call) (characters : List ℕ) → AllSmall characters → call_wraps c call characters ≡ (eqb (call_answer c call (length characters)) 0 && last_of_lines call)
unfolding call_wraps
call_wraps_lem c call characters small =
    where_done (eqb (call_answer c call (length characters)) 0) (λ t. (taken_comes c call characters (eqb→eq _ 0 t) small).wraps)

pub text_never_wraps : TextNeverWraps
text_never_wraps c line characters small = call_wraps_lem c (Text line) characters small ∙ and-false (eqb (call_answer c (Text line) (length characters)) 0)

pub logging_wraps_exactly : LoggingWrapsExactly
logging_wraps_exactly c night quarters = call_wraps_lem c (Log night quarters) [] no_characters
