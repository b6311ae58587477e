-- "A refused call … writes to no buffer", and "bytes behind them stay": what a call leaves in a lent buffer.
use Rattle.std.specs.Prelude.{ℕ, eqb, length, drop, cond, List, ◌++◌}

-- new bytes at the front; bytes behind them stay
unfoldable pub over : (new out : List ℕ) → List ℕ
over new out = new ++ drop (length new) out

-- a refused call writes to no buffer
unfoldable pub unless_refused : (number : ℕ) → (new out : List ℕ) → List ℕ
unless_refused number new out = cond (eqb number 0) (over new out) out
