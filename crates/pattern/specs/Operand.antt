-- A finite operand that is not zero, and its magnitude as a significand and a power of two. Assumes nothing.
use Rattle.std.specs.Prelude.{◌≡◌, ℕ, suc, ◌+◌, ◌*◌, ◌^◌, ◌≤◌, ◌<◌}
use Rattle.ieee.specs.Format.{Format, infinity}
use Rattle.pattern.specs.declared.operand.Scaled.{Scaled}

-- the pattern without sign of such an operand
pub record Ordinary (f : Format) (t : ℕ) : Type 0 where
  pub finite : t < infinity f
  pub some : 0 < t

-- x × 2^m is y × 2^j, and y has m + 1 bits; the largest exponent field, 2^n − 2, gives the largest j
pub record Scaling (f : Format) (x : ℕ) (r : Scaled) : Type 0 where
  pub is : x * 2 ^ f.fraction_bits ≡ r.significand * 2 ^ r.exponent
  pub least : 2 ^ f.fraction_bits ≤ r.significand
  pub below : r.significand < 2 ^ suc f.fraction_bits
  pub small : r.exponent + 2 < 2 ^ f.exponent_bits + f.fraction_bits
