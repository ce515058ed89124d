-- The exact result of an operation among the numbers of a format, and its rounding. Assumes nothing.
use Rattle.std.specs.Prelude.{ℕ, suc, ◌+◌, ◌*◌, ◌^◌, Bool, cond, not, ◌&&◌, ◌||◌, leb, ltb, eqb}
use Rattle.kinds.specs.declared.Op.{Op}
use Rattle.kinds.specs.declared.Op.TheVariants.{Reciprocal, Root, InverseRoot}
use Rattle.kinds.specs.declared.Mode.{Mode}
use Rattle.kinds.specs.Rounding.{Place, place_by, rounded_by}
use Rattle.kinds.specs.Flag.{overflow, underflow, inexact}
use Rattle.numbers.specs.Greatest.{greatest}
use Rattle.ieee.specs.Format.{Format, unit_of, infinity, least_normal, magnitude_of}

-- The operand has the magnitude x and some number the magnitude v, both in units of 2^-u. The number is at most the exact result
-- where `side` is at most `limit`: for the reciprocal x·v ≤ 2^2u, for the root v² ≤ x·2^u, for the inverse root v²·x ≤ 2^3u
abbrev pub side : Op → ℕ → ℕ → ℕ
side Reciprocal x v = x * v
side Root x v = v * v
side InverseRoot x v = v * v * x

abbrev pub limit : ℕ → Op → ℕ → ℕ
limit u Reciprocal x = 2 ^ (2 * u)
limit u Root x = x * 2 ^ u
limit u InverseRoot x = 2 ^ (3 * u)

-- the factor by which the limit grows where the exact result is doubled
abbrev pub twice : Op → ℕ
twice Reciprocal = 2
twice Root = 4
twice InverseRoot = 4

-- the magnitude v is at most the exact result
unfoldable pub fits : Format → Op → ℕ → ℕ → Bool
fits f op x v = leb (side op x v) (limit (unit_of f) op x)

-- the lower neighbour: the greatest finite pattern whose magnitude is at most the exact result
unfoldable pub lower_of : Format → Op → ℕ → ℕ
lower_of f op x =
    greatest (f.exponent_bits + f.fraction_bits) (λ (t : ℕ). ltb t (infinity f) && fits f op x (magnitude_of f t))

-- where the exact result lies between the pattern t and the next
unfoldable pub place_at : Format → Op → ℕ → ℕ → Place
place_at f op x t =
    place_by (side op x (magnitude_of f t)) (limit (unit_of f) op x)
    (side op x (magnitude_of f t + magnitude_of f (suc t))) (twice op * limit (unit_of f) op x)

-- the rounded magnitude, as a pattern
unfoldable pub rounded_of : Format → Op → Mode → Bool → ℕ → ℕ
rounded_of f op mode negative x = rounded_by mode negative (lower_of f op x) (place_at f op x (lower_of f op x))

-- the exact result is no finite number of the format
unfoldable pub is_inexact : Format → Op → ℕ → Bool
is_inexact f op x = not (eqb (side op x (magnitude_of f (lower_of f op x))) (limit (unit_of f) op x))

-- with no end to the exponents the rounded result would be infinity's number or more
unfoldable pub is_overflow : Format → Op → Mode → Bool → ℕ → Bool
is_overflow f op mode negative x =
    fits f op x (magnitude_of f (infinity f)) || eqb (rounded_of f op mode negative x) (infinity f)

-- the exact result is below the least normal number, before rounding, and inexact
unfoldable pub is_underflow : Format → Op → ℕ → Bool
is_underflow f op x = not (fits f op x (magnitude_of f (least_normal f))) && is_inexact f op x

-- the flags of a rounded result
unfoldable pub flags_of : Format → Op → Mode → Bool → ℕ → ℕ
flags_of f op mode negative x =
    cond (is_overflow f op mode negative x) overflow 0 + cond (is_underflow f op x) underflow 0 + cond (is_inexact f op x) inexact 0
