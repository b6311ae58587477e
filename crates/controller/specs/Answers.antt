-- "Refusal numbers": this paper's number, and the value read, for each answer to a transfer or a wait; and beside them the wrap.
use Rattle.std.specs.Prelude.{ℕ, Bool, false, Result, Ok, Err}
use Rattle.refusal.specs.Refusals.{number}
use Rattle.refusal.specs.declared.Refusal.{Refusal}
use Rattle.controller.specs.declared.answer.Answer.{Answer}
use Rattle.controller.specs.declared.answer.Reply.{Reply}
use Rattle.controller.specs.declared.answer.Reply.TheVariants.{Done, FirstHalf}

-- what a caller is told: a number, the value read, and whether the counter passed an end (request 8/12)
pub record Said : Type 0 where
  pub number : ℕ
  pub value : ℕ
  pub wrap : Bool

-- this number and this value, and no
abbrev pub saying : (number value : ℕ) → Said
saying n v = record { number = n; value = v; wrap = false }

-- the same number and value, saying w of the end
abbrev pub wrapping : Bool → Said → Said
wrapping w s = record { number = s.number; value = s.value; wrap = w }

-- a refused call returns its number and 0 for any value
abbrev pub refused : ℕ → Said
refused n = saying n 0

abbrev pub said_of : Result Reply Refusal → Said
said_of (Ok (Done v)) = saying 0 v
said_of (Ok (FirstHalf v)) = saying 20 v
said_of (Err refusal) = refused (number refusal)

-- what the code's step answers, as what a call answers
abbrev pub answered_as : Answer → Result Reply Refusal
answered_as (Answer.Done v) = Ok (Reply.Done v)
answered_as (Answer.FirstHalf v) = Ok (Reply.FirstHalf v)
answered_as Answer.Busy = Err Refusal.Busy
answered_as Answer.HalvesDisagree = Err Refusal.HalvesDisagree
answered_as Answer.NoSuchAddress = Err Refusal.NoSuchAddress
