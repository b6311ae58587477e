-- "Refusal numbers": this paper's number for each refusal, and the number that a call answers.
use Rattle.std.specs.Prelude.{ℕ, Result, Ok, Err, ◌≡◌}
use Rattle.refusal.specs.declared.Refusal.{Refusal}
use Rattle.refusal.specs.declared.Refusal.TheVariants.{Busy, HalvesDisagree, NoSuchAddress, BadDigits, BadImage, ShortBuffer, BadLength, BadVersion, BadEvents, Full, BadNight, BadQuarters, AlreadyWritten, NotInRange, NotReady, BadText, BadVdd, BadSpan}

abbrev pub number : Refusal → ℕ
number Busy = 1
number HalvesDisagree = 2
number NoSuchAddress = 3
number BadDigits = 4
number BadImage = 5
number ShortBuffer = 6
number BadLength = 7
number BadVersion = 8
number BadEvents = 9
number Full = 10
number BadNight = 11
number BadQuarters = 12
number AlreadyWritten = 13
number NotInRange = 16
number NotReady = 17
number BadText = 18
number BadVdd = 21
number BadSpan = 22

-- what `From` promises
abbrev pub is_number_of : Refusal → ℕ → Type 0
is_number_of refusal n = n ≡ number refusal

-- 0 for what is done
abbrev pub number_of : {A : Type 0} → Result A Refusal → ℕ
number_of (Ok x) = 0
number_of (Err refusal) = number refusal
