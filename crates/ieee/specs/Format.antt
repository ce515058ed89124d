-- A binary interchange format: its fields, and the magnitude that a pattern stands for. Assumes nothing.
use Rattle.std.specs.Prelude.{ℕ, zero, suc, ◌+◌, ◌*◌, ◌-◌, ◌/◌, ◌%◌, ◌^◌}

-- how many bits the exponent and the fraction have
pub record Format : Type 0 where
  pub exponent_bits : ℕ
  pub fraction_bits : ℕ

abbrev pub binary32 : Format
binary32 = record { exponent_bits = 8; fraction_bits = 23 }

-- the wider format of document 02
abbrev pub binary64 : Format
binary64 = record { exponent_bits = 11; fraction_bits = 52 }

-- the exponent's bias [127]
abbrev pub bias_of : Format → ℕ
bias_of f = 2 ^ (f.exponent_bits - 1) - 1

-- a magnitude is counted in units of 2^-u [u is 149]
abbrev pub unit_of : Format → ℕ
unit_of f = bias_of f + f.fraction_bits - 1

-- the sign's place in a pattern [2^31]
abbrev pub sign_bit : Format → ℕ
sign_bit f = 2 ^ (f.exponent_bits + f.fraction_bits)

-- the patterns of infinity [7F800000], of the least normal number [00800000] and of the quiet NaN [7FC00000]
abbrev pub infinity : Format → ℕ
infinity f = (2 ^ f.exponent_bits - 1) * 2 ^ f.fraction_bits

abbrev pub least_normal : Format → ℕ
least_normal f = 2 ^ f.fraction_bits

abbrev pub quiet_nan : Format → ℕ
quiet_nan f = infinity f + 2 ^ (f.fraction_bits - 1)

-- the magnitude of the exponent field e and the fraction x of m bits, in units: x where e is 0, else (2^m + x) × 2^(e − 1)
abbrev pub scaled : ℕ → ℕ → ℕ → ℕ
scaled m zero x = x
scaled m (suc e) x = (2 ^ m + x) * 2 ^ e

-- the magnitude of a pattern without its sign; infinity counts as the number above the largest
unfoldable pub magnitude_of : Format → ℕ → ℕ
magnitude_of f t = scaled f.fraction_bits (t / 2 ^ f.fraction_bits) (t % 2 ^ f.fraction_bits)
