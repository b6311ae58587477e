-- What is proved of the decimals beside the promises.
use Rattle.std.specs.Prelude.{ℕ, ◌+◌, ◌*◌, ◌<◌, ◌≤◌}
use Rattle.decimals.specs.Decimals.{nearest_of}

-- n, the nearest to a / c, a half up: n - 1/2 <= a / c < n + 1/2
abbrev pub NearestHalfUp : Type 0
NearestHalfUp = (a c : ℕ) → 0 < c → let n = nearest_of a c in (2 * (n * c) ≤ 2 * a + c) × (2 * a < 2 * (n * c) + c)
