-- The place of an exact magnitude by a guard bit and a sticky bit, and a rounding by how far it goes, as code has them. Assumes nothing.
use Rattle.std.specs.Prelude.{Bool, true, false, ℕ}
use Rattle.kinds.specs.declared.Mode.{Mode}
use Rattle.kinds.specs.declared.Mode.TheVariants.{Nearest, Up, Down, TowardZero}
use Rattle.kinds.specs.Rounding.{Place, exact, below, half, above}

-- the place by two bits: whether the midpoint is reached, and whether anything lies above what was reached
abbrev pub place_of : Bool → Bool → Place
place_of false false = exact
place_of false true = below
place_of true false = half
place_of true true = above

-- what a rounding leaves of the way between two neighbours, in halves: 0 away from zero, 1 to the nearest, 2 toward zero
unfoldable pub rest_of : Mode → Bool → ℕ
rest_of Nearest negative = 1
rest_of Up false = 0
rest_of Up true = 2
rest_of Down false = 2
rest_of Down true = 0
rest_of TowardZero negative = 2
