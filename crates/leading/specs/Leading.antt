-- A whole number by its leading bits. Assumes nothing.
use Rattle.std.specs.Prelude.{ℕ, ◌+◌, ◌*◌, ◌^◌, ◌≤◌, ◌<◌}
use Rattle.significand.specs.Width.{k32, t32, Significand}

-- y is the 24 highest bits of n, below 2^64, and exponent the place of the highest: n · 2^23 lies from y to y + 1, times 2^exponent
pub record LeadingOf (n y exponent : ℕ) : Type 0 where
  pub significand : Significand k32 t32 y
  pub low : y * 2 ^ exponent ≤ n * 2 ^ 23
  pub high : n * 2 ^ 23 ≤ (y + 1) * 2 ^ exponent
  pub highest : 2 ^ exponent ≤ n
  pub next : n < 2 ^ (exponent + 1)
  pub most : exponent < 64
