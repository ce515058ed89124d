-- What the numbers of a format are to one another. Assumes nothing.
use Rattle.std.specs.Prelude.{◌≡◌, refl, ℕ, ◌+◌, ◌*◌, ◌≤◌, ◌<◌}
use Rattle.std.proofs.Common.{lit<, lit≤}
use Rattle.ieee.specs.Format.{Format, binary32, binary64, unit_of}

-- two numbers are the format's, whose fields have one bit or more, and together a word's; its unit is that of far smaller numbers than its fractions need
pub record FormatLaws (f : Format) (fraction place : ℕ) : Type 0 where
  pub fraction-is : fraction ≡ f.fraction_bits
  pub place-is : place ≡ f.exponent_bits + f.fraction_bits
  pub some : 0 < f.fraction_bits
  pub exponents : 2 ≤ f.exponent_bits
  pub few : f.exponent_bits ≤ 15
  pub word : f.exponent_bits + f.fraction_bits ≤ 63
  pub wide : 4 * f.fraction_bits + 4 ≤ unit_of f

pub laws32 : FormatLaws binary32 23 31
laws32 = record { fraction-is = refl; place-is = refl; some = lit< tt; exponents = lit≤ tt; few = lit≤ tt; word = lit≤ tt; wide = lit≤ tt }

pub laws64 : FormatLaws binary64 52 63
laws64 = record { fraction-is = refl; place-is = refl; some = lit< tt; exponents = lit≤ tt; few = lit≤ tt; word = lit≤ tt; wide = lit≤ tt }
