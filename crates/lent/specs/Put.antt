-- Bytes put at a place of a lent buffer.
use Rattle.std.specs.Prelude.{ℕ, ◌+◌, length, take, drop, List, ◌++◌, ◌≡◌}

-- new bytes from a place on; the bytes before and behind them stay
unfoldable pub put_at : ℕ → List ℕ → List ℕ → List ℕ
put_at place new out = take place out ++ (new ++ drop (place + length new) out)

-- what a call that puts bytes at a place promises: it says the place behind them
pub record Puts (new : List ℕ) (place : ℕ) (out : List ℕ) (r : ℕ) (left : List ℕ) : Type 0 where
  pub next : r ≡ place + length new
  pub buffer : left ≡ put_at place new out
