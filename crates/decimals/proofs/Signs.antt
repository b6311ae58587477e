-- Laws of the sign: one byte below zero, and otherwise none.
use Prim.Native.Nat.{ℕ, ◌≤◌}
use borrow.Author.Tests.{le-ltb}
use lib.Dec.{ltb}
use lib.ListN.{length}
use mathlib.Core.List.{List, []}
use mathlib.Core.Path.{◌≡◌, sym}
use native.Mathlib.Omega.{arith}
use Rattle.condition.proofs.Tests.{split}
use Rattle.lent.proofs.Placed.{put_none}
use Rattle.lent.specs.Put.{Puts}
use Rattle.decimals.specs.Decimals.{sign_of}

pub none_from : (a b : ℕ) → b ≤ a → sign_of a b ≡ []
none_from a b h = rw (le-ltb a b h)

pub no_sign_puts : (a b place : ℕ) (out : List ℕ) → b ≤ a → Puts (sign_of a b) place out place out
no_sign_puts a b place out h = rw (none_from a b h) (record { next = omega arith; buffer = sym (put_none place out) })

pub sign_fits : (a b : ℕ) → length (sign_of a b) ≤ 1
sign_fits a b = split (λ sign. length sign ≤ 1) (ltb a b) (λ t. omega arith) (λ t. omega arith)
