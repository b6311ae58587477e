-- Yes and no as the code has them in a byte.
use mathlib.Core.Bool.{Bool, true, false}
use mathlib.Core.Path.{◌≡◌, refl}
use mir.Val.{bool_byte}
use Rattle.condition.specs.Flag.{flag_number}

pub flag_number_lem : (b : Bool) → bool_byte b ≡ flag_number b
flag_number_lem true = refl
flag_number_lem false = refl
