-- A quotient rounded to the nearest whole number, by quotient and remainder.
use Prim.Native.Nat.{◌+◌, ◌*◌, ◌%◌, ◌<◌}
use mathlib.Core.Path.{◌≡◌}
use native.Mathlib.Nat.{div-add-mod', mod-lt, mul_left_comm}
use native.Mathlib.Omega.{arith}
use Rattle.decimals.specs.Decimals.{nearest_of}
use Rattle.decimals.specs.Theorems.{NearestHalfUp}

pub nearest_half_up : NearestHalfUp
nearest_half_up a c above =
    let twice : 0 < 2 * c = omega arith in
    let n = nearest_of a c in
    let whole : 2 * (n * c) + (2 * a + c) % (2 * c) ≡ 2 * a + c = omega (arith, div-add-mod' (2 * a + c) (2 * c), mul_left_comm n 2 c) in
    let rest : (2 * a + c) % (2 * c) < 2 * c = mod-lt (2 * a + c) twice in
    (omega arith, omega arith)
