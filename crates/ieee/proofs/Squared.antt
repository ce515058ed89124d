-- A number's square, and when a significand is that square to the nearest. Assumes nothing.
use Prim.Native.Nat.{ℕ, ◌+◌, ◌*◌, ◌^◌, ◌≤◌}
use Rattle.ieee.specs.Format.{Format, unit_of}

-- The number with the significand m under the exponent c, and its square rounded to the significand C by dropping k digits: both in
-- units of 2^-u, so that the square is counted in units of 2^-2u
module _ (f : Format) (c m k C : ℕ) where
  abbrev pub square_of : ℕ
  square_of = m * 2 ^ c * (m * 2 ^ c)

  -- the unit by which the square is rounded
  abbrev pub dropped : ℕ
  dropped = 2 ^ k * 2 ^ unit_of f

  -- C of these units are the square to the nearest, and it has as many of them as a significand at least
  pub record Squared : Type 0 where
    pub unit : 2 ^ f.fraction_bits * dropped ≤ square_of
    pub low : 2 * square_of ≤ 2 * (C * dropped) + dropped
    pub high : 2 * (C * dropped) ≤ 2 * square_of + dropped
