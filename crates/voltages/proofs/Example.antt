-- The request's example, by computing.
use lib.Ieee.{of_int, sub, mul, div}
use mathlib.Core.Path.{refl}
use Rattle.condition.specs.First.{first_of}
use Rattle.voltages.specs.Answers.{answer_of}
use Rattle.voltages.specs.Theorems.{RequestExample}

pub request_example : RequestExample
unfolding answer_of first_of of_int sub mul div
request_example = refl
