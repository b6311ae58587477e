-- `screen DIGITS ROM plain|dark [pbm]`: what the words mean. The file's name is not looked at.
use Rattle.std.specs.Prelude.{ℕ, eqb, Option, Some, None, cond, ◌&&◌, List}
use Rattle.arguments.specs.Words.{number_in, is_word}
use Rattle.dots.specs.declared.phase.Phase.{Phase}
use Rattle.dots.specs.declared.phase.Phase.TheVariants.{Plain, Dark}
use Rattle.drawing.specs.declared.form.Form.{Form}
use Rattle.drawing.specs.declared.form.Form.TheVariants.{Text, Image}
use Rattle.text.specs.Text.{text_of}
use Rattle.view.specs.declared.words.Wanted.{Wanted}

-- ---- plain or dark, and pbm if there is a fourth word

unfoldable pub phase_in : List ℕ → Option Phase
phase_in word = cond (is_word (text_of "plain") word) (Some Plain) (cond (is_word (text_of "dark") word) (Some Dark) None)

unfoldable pub form_in : (words : ℕ) → List ℕ → Option Form
form_in words word = cond (eqb words 3) (Some Text) (cond (eqb words 4 && is_word (text_of "pbm") word) (Some Image) None)

-- ---- DIGITS is decimal, 0 to 255; a word that means nothing asks for the usage line

unfoldable pub asked_of : Option ℕ → Option Phase → Option Form → Option Wanted
asked_of (Some n) (Some phase) (Some form) = Some (record { digits = n; phase = phase; form = form })
asked_of (Some n) (Some phase) None = None
asked_of (Some n) None form = None
asked_of None phase form = None

unfoldable pub asked_by : (words : ℕ) (digits phase form : List ℕ) → Option Wanted
asked_by words digits phase form = asked_of (number_in 255 digits) (phase_in phase) (form_in words form)
