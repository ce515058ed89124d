-- A magnitude as a significand and a power of two, and the parity of that power. Assumes nothing.
use Rattle.std.specs.Prelude.{ℕ, ◌+◌, ◌*◌, ◌/◌, ◌%◌, ◌^◌, leb}
use Rattle.numbers.specs.Greatest.{greatest}
use Rattle.ieee.specs.Format.{Format, unit_of}

-- the place of the highest bit of the magnitude x, counted from 0
unfoldable pub highest_of : Format → ℕ → ℕ
highest_of f x = greatest (f.exponent_bits + 1) (λ (n : ℕ). leb (2 ^ n) x)

-- the significand, x with as many zeros behind it as give it the m + 1 bits of a significand: x × 2^m is y × 2^highest
unfoldable pub significand_of : Format → ℕ → ℕ
significand_of f x = x * 2 ^ f.fraction_bits / 2 ^ highest_of f x

-- x counts units of 2^-u, so that the value is Y × 2^(highest − u), and the parity that of the exponent
unfoldable pub exponent_parity : Format → ℕ → ℕ
exponent_parity f x = (highest_of f x + unit_of f) % 2
