-- The sign of a pattern, and the rest, by its fields. Assumes nothing.
use Rattle.std.specs.Prelude.{◌≡◌, ℕ, ◌/◌, ◌%◌, ◌^◌, ◌<◌}
use Rattle.ieee.specs.Format.{Format}
use Rattle.ieee.specs.Answer.{sign_bit_of, unsigned}
use Rattle.pattern.specs.declared.parts.Parts.{Parts}

-- the exponent and the fraction are those of the pattern without sign
pub record FieldsOf (f : Format) (x : Parts) : Type 0 where
  pub exponent : x.exponent ≡ x.unsigned / 2 ^ f.fraction_bits
  pub fraction : x.fraction ≡ x.unsigned % 2 ^ f.fraction_bits

pub record PartsOf (f : Format) (b : ℕ) (x : Parts) : Type 0 where
  pub sign : x.sign ≡ sign_bit_of f b
  pub unsigned : x.unsigned ≡ unsigned f b
  pub fields : FieldsOf f x
  pub one_bit : x.sign < 2
