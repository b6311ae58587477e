-- `bias VDD SPAN quarter|fifth`: what the words mean.
use Rattle.std.specs.Prelude.{ℕ, eqb, Option, Some, None, cond, List}
use Rattle.arguments.specs.Words.{number_in, is_word}
use Rattle.text.specs.Text.{text_of}
use Rattle.voltages.specs.Voltages.{drive_of}
use Rattle.voltages.specs.declared.Bias.{Bias}
use Rattle.voltages.specs.declared.Bias.TheVariants.{Quarter, Fifth}
use Rattle.voltages.specs.declared.Drive.{Drive}

unfoldable pub bias_in : List ℕ → Option Bias
bias_in word = cond (is_word (text_of "quarter") word) (Some Quarter) (cond (is_word (text_of "fifth") word) (Some Fifth) None)

-- VDD and SPAN are decimal, 0 to 65,535; a word that means nothing asks for the usage line
unfoldable pub asked_of : Option ℕ → Option ℕ → Option Bias → Option Drive
asked_of (Some vdd) (Some span) (Some bias) = Some (drive_of vdd span bias)
asked_of (Some vdd) (Some span) None = None
asked_of (Some vdd) None bias = None
asked_of None span bias = None

-- and so does another number of words
unfoldable pub asked_by : (words : ℕ) (vdd span bias : List ℕ) → Option Drive
asked_by words vdd span bias = cond (eqb words 3) (asked_of (number_in 65535 vdd) (number_in 65535 span) (bias_in bias)) None
