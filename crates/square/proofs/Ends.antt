-- Both ends of the range are sharp: a number just below 2^-63 that does not come back, and 2^64, whose square overflows.
-- Assumes nothing.
use mathlib.Core.Path.{◌≡◌, refl}
use mathlib.Core.Bool.{false}
use lib.Dec.{T}
use lib.IntN.{negsuc}
use lib.Ieee as I
use lib.Ieee.{Float, inf, fin, lt, mul, of_bits, to_bits}
use Rattle.kinds.specs.Rounding.{away, place_by, rounded_by}
use Rattle.numbers.specs.Greatest.{greatest, greatest_from}
use Rattle.ieee.specs.Format.{magnitude_of}
use Rattle.ieee.specs.Rounded.{fits, lower_of, place_at, rounded_of}
use Rattle.ieee.specs.Answer.{answer_of}
use Rattle.square.specs.Width.{least, limit, root_of_square}

-- 4095 × 2^-75, 4,096 numbers below 2^-63: its square lies half a unit above a subnormal number, and the number before it comes back
abbrev pub below : Float
below = fin false 4095 (negsuc 74)

pub record Lost : Type 0 where
  pub holds : T (I.fits I.binary32 below)
  pub under : T (lt below least)
  pub root_is : root_of_square below ≡ fin false 16773119 (negsuc 86)

pub lost : Lost
unfolding I.fits lt root_of_square of_bits to_bits mul answer_of rounded_of rounded_by away place_at place_by magnitude_of lower_of greatest greatest_from fits
lost = record { holds = tt; under = tt; root_is = refl }

-- 2^64 is the first number that is no width, and infinity comes back
pub overflows : (mul I.binary32 limit limit ≡ inf false) × (root_of_square limit ≡ inf false)
unfolding mul root_of_square of_bits to_bits answer_of
overflows = (refl, refl)
