-- An exact result as a floor with a guard bit, the form in which it is worked out; and what stands below it. Assumes nothing.
use Rattle.std.specs.Prelude.{◌≡◌, Bool, false, not, ◌||◌, ℕ, suc, ◌+◌, ◌*◌, ◌-◌, ◌/◌, ◌%◌, ◌^◌, ◌≤◌, ◌<◌, leb, eqb}
use Rattle.kinds.specs.declared.Op.{Op}
use Rattle.kinds.specs.Guard.{place_of}
use Rattle.ieee.specs.Format.{Format, unit_of, infinity, magnitude_of}
use Rattle.ieee.specs.Rounded.{side, limit, twice, fits, lower_of, place_at}

-- The exact result of the operand x, in units, is at least q × 2^(k − 3) and below (q + 1) × 2^(k − 3); `more` says that it is more than
-- the former. q has a significand's bits and one more, the guard bit. Below k = 2 the result is subnormal: 2 − k bits of q are lost
pub record Guarded (f : Format) (op : Op) (x q : ℕ) (more : Bool) (k : ℕ) : Type 0 where
  pub low : side op x (q * 2 ^ (k - 2)) ≤ twice op ^ suc (2 - k) * limit (unit_of f) op x
  pub high : twice op ^ suc (2 - k) * limit (unit_of f) op x < side op x (suc q * 2 ^ (k - 2))
  pub rest : more ≡ not (eqb (side op x (q * 2 ^ (k - 2))) (twice op ^ suc (2 - k) * limit (unit_of f) op x))
  pub least : 2 ^ suc f.fraction_bits ≤ q
  pub most : q ≤ 2 ^ suc (suc f.fraction_bits)
  pub top : q ≡ 2 ^ suc (suc f.fraction_bits) → more ≡ false

-- q without the bits that are lost
abbrev pub kept : ℕ → ℕ → ℕ
kept k q = q / 2 ^ (2 - k)

-- the pattern below the exact result, were there no end to the exponents
abbrev pub floor_pattern : Format → ℕ → ℕ → ℕ
floor_pattern f k q = (k - 2) * 2 ^ f.fraction_bits + kept k q / 2

-- the guard bit: the midpoint is reached
abbrev pub guard_bit : ℕ → ℕ → Bool
guard_bit k q = eqb (kept k q % 2) 1

-- the sticky bit: something lies above
abbrev pub sticky_bit : ℕ → ℕ → Bool → Bool
sticky_bit k q more = more || not (eqb (kept k q * 2 ^ (2 - k)) q)

-- infinity's number is reached
abbrev pub is_beyond : Format → ℕ → ℕ → Bool
is_beyond f k q = leb (infinity f) (floor_pattern f k q)

-- t is the finite pattern below the exact result, whose place is said by two bits, and which may be infinity's number or more
pub record Below (f : Format) (op : Op) (x t : ℕ) (half more beyond : Bool) : Type 0 where
  pub finite : t < infinity f
  pub lower : lower_of f op x ≡ t
  pub place : place_at f op x t ≡ place_of half more
  pub reaches : fits f op x (magnitude_of f (infinity f)) ≡ beyond
