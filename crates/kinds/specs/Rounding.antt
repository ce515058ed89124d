-- The four roundings, whose cases are those of `kinds::Mode`, their numbers, and which of two neighbours each takes. Assumes nothing.
use Rattle.std.specs.Prelude.{◌≡◌, ℕ, suc, ◌%◌, ◌<◌, Bool, true, false, cond, not, eqb, leb, ltb}
use Rattle.kinds.specs.declared.Mode.{Mode}
use Rattle.kinds.specs.declared.Mode.TheVariants.{Nearest, Up, Down, TowardZero}

-- question 2: is the rounding 0 to 3?
abbrev pub is_rounding : ℕ → Bool
is_rounding n = leb n 3

-- 0 nearest with ties to even, 1 up, 2 down, 3 toward zero
abbrev pub mode_of : ℕ → Mode
mode_of n = cond (eqb n 0) Nearest (cond (eqb n 1) Up (cond (eqb n 2) Down TowardZero))

-- the number of each
abbrev pub number_of : Mode → ℕ
number_of Nearest = 0
number_of Up = 1
number_of Down = 2
number_of TowardZero = 3

-- where an exact magnitude lies between two neighbours: at the lower, or below, at or above the midpoint
pub data Place : Type 0 where
  exact below half above : Place

-- whether the neighbour farther from zero is taken, by the sign, whether the lower neighbour is odd, and the place
unfoldable pub away : Mode → Bool → Bool → Place → Bool
away mode negative odd exact = false
away Nearest negative odd below = false
away Nearest negative odd half = odd
away Nearest negative odd above = true
away Up negative odd below = not negative
away Up negative odd half = not negative
away Up negative odd above = not negative
away Down negative odd below = negative
away Down negative odd half = negative
away Down negative odd above = negative
away TowardZero negative odd below = false
away TowardZero negative odd half = false
away TowardZero negative odd above = false

-- the place, from a product that grows with the number: its value at the lower neighbour against the limit that the exact value
-- reaches, and its value at the sum of both neighbours, twice the midpoint, against the limit for twice the exact value
unfoldable pub place_by : ℕ → ℕ → ℕ → ℕ → Place
place_by low limit middle doubled =
    cond (eqb low limit) exact
    (cond (ltb middle doubled) above
    (cond (eqb middle doubled) half
    below))

-- what a place says of those four numbers
abbrev pub Says : Place → ℕ → ℕ → ℕ → ℕ → Type 0
Says exact low limit middle doubled = low ≡ limit
Says below low limit middle doubled = (low < limit) × (doubled < middle)
Says half low limit middle doubled = (low < limit) × (middle ≡ doubled)
Says above low limit middle doubled = (low < limit) × (middle < doubled)

-- the lower neighbour t, or the next, as the rounding decides
unfoldable pub rounded_by : Mode → Bool → ℕ → Place → ℕ
rounded_by mode negative t place = cond (away mode negative (eqb (t % 2) 1) place) (suc t) t
