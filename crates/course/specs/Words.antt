-- `panel text LINE CHARACTERS`, `panel log NIGHT QUARTERS`, `panel night NIGHT`: what the words mean.
use Rattle.std.specs.Prelude.{ℕ, eqb, Option, Some, None, cond, ◌&&◌, List}
use Rattle.arguments.specs.Words.{number_in, is_word}
use Rattle.calls.specs.declared.Call.{Call}
use Rattle.text.specs.Text.{text_of}
use Rattle.course.specs.declared.request.Request.{Request}
use Rattle.course.specs.declared.request.Request.TheVariants.{Make, LookUp}

-- numbers are decimal, up to 255
abbrev pub most_number : ℕ
most_number = 255

abbrev pub byte_in : (word : List ℕ) → Option ℕ
byte_in word = number_in most_number word

unfoldable pub text_asked : (line : Option ℕ) → Option Request
text_asked (Some line) = Some (Make (Call.Text line))
text_asked None = None

unfoldable pub log_asked : (night quarters : Option ℕ) → Option Request
log_asked (Some night) (Some quarters) = Some (Make (Call.Log night quarters))
log_asked (Some night) None = None
log_asked None quarters = None

unfoldable pub night_asked : (night : Option ℕ) → Option Request
night_asked (Some night) = Some (LookUp night)
night_asked None = None

-- three words, or two for `night`; with any other count or word the usage is asked for
unfoldable pub asked_by : (words : ℕ) (what first second : List ℕ) → Option Request
asked_by words what first second =
    cond (eqb words 3 && is_word (text_of "text") what) (text_asked (byte_in first))
    (cond (eqb words 3 && is_word (text_of "log") what) (log_asked (byte_in first) (byte_in second))
    (cond (eqb words 2 && is_word (text_of "night") what) (night_asked (byte_in first)) None))
