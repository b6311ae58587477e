-- Yes and no as a number.
use Rattle.std.specs.Prelude.{ℕ, Bool, true, false}

-- 0 or 1
abbrev pub flag_number : Bool → ℕ
flag_number false = 0
flag_number true = 1
