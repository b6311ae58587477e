-- The counter of registers in range addresses a cell or a byte that is there; what is read and stored there.
use Prim.Native.Nat.{ℕ, ◌<◌, ◌≤◌}
use lib.Dec.{leb→le}
use lib.ListN.{get_or, set}
use mathlib.Core.Bool.{true}
use mathlib.Core.List.{List}
use mathlib.Core.Path.{◌≡◌, subst, subst⁻¹}
use native.Mathlib.Omega.{arith}
use Rattle.condition.proofs.Tests.{holds}
use Rattle.controller.specs.Memory.{byte_at, store_at, display_after, character_after}
use Rattle.counters.proofs.Laws.{cell_exists}
use Rattle.counters.specs.Address.{cell_of, has_character}
use Rattle.counters.specs.Counter.{has_counter}
use Rattle.counters.specs.declared.LineMode.{LineMode}
use Rattle.counters.specs.declared.address.Cell.{Cell}
use Rattle.counters.specs.declared.address.CharacterAddress.{CharacterAddress}
use Rattle.counters.specs.declared.address.DisplayAddress.{DisplayAddress}
use Rattle.counters.specs.declared.counter.Counter.{Counter}
use Rattle.counters.specs.declared.counter.Counter.TheVariants.{Display, Character}

pub cell_below : (lines : LineMode) {k : Counter} {a : DisplayAddress} {c : Cell} → has_counter lines k ≡ true → k ≡ Display a → c ≡ cell_of lines a → c.0 < 80
unfolding has_counter
cell_below lines {a = a} t e f = subst⁻¹ (λ (c : Cell). c.0 < 80) f (cell_exists lines a (holds _ (subst (λ k. has_counter lines k ≡ true) e t)))

pub character_below : (lines : LineMode) {k : Counter} {a : CharacterAddress} → has_counter lines k ≡ true → k ≡ Character a → a.0 < 64
unfolding has_counter has_character
character_below lines {a = a} t e = let h : a.0 ≤ 0x3F = leb→le _ _ (holds _ (subst (λ k. has_counter lines k ≡ true) e t)) in omega arith

-- ---- the byte read there
module _ (lines : LineMode) (d m : List ℕ) where
  pub cell_read : {k : Counter} {a : DisplayAddress} {c : Cell} → k ≡ Display a → c ≡ cell_of lines a → get_or d c.0 0 ≡ byte_at lines k d m
  unfolding byte_at
  cell_read e f = rw (e, f)

  pub character_read : {k : Counter} {a : CharacterAddress} → k ≡ Character a → get_or m a.0 0 ≡ byte_at lines k d m
  unfolding byte_at
  character_read e = rw e

  -- ---- the byte stored there
  pub cell_stored : (n : ℕ) {k : Counter} {a : DisplayAddress} {c : Cell} → k ≡ Display a → c ≡ cell_of lines a
      → (set d c.0 n ≡ display_after (store_at lines k n) d) × (m ≡ character_after (store_at lines k n) m)
  unfolding store_at display_after character_after
  cell_stored n e f = (rw (e, f), rw e)

  pub character_stored : (n : ℕ) {k : Counter} {a : CharacterAddress} → k ≡ Character a
      → (d ≡ display_after (store_at lines k n) d) × (set m a.0 n ≡ character_after (store_at lines k n) m)
  unfolding store_at display_after character_after
  character_stored n e = (rw e, rw e)
