-- The floor of an operation on a significand, with a guard bit, over the bits m of a fraction. Assumes nothing.
use Rattle.std.specs.Prelude.{◌≡◌, Bool, cond, not, ℕ, zero, suc, ◌+◌, ◌*◌, ◌-◌, ◌/◌, ◌%◌, ◌^◌, ◌≤◌, ◌<◌, eqb}
use Rattle.kinds.specs.declared.Op.{Op}
use Rattle.kinds.specs.declared.Op.TheVariants.{Reciprocal, Root, InverseRoot}
use Rattle.ieee.specs.Format.{Format, unit_of}
use Rattle.ieee.specs.Rounded.{side}

-- The floor of the significand y and the parity p is the greatest q with y·q ≤ 2^(2m + 2), q² ≤ y·2^(m + 2 + p), or
-- q²·y ≤ 2^(3m + 4 − p): `side` at most the target [2^48, y·2^(25 + p) and 2^(73 − p); 2^106, y·2^(54 + p) and 2^(160 − p)]
abbrev pub target_of : ℕ → Op → ℕ → ℕ → ℕ
target_of m Reciprocal y p = 2 ^ (2 * m + 2)
target_of m Root y p = y * 2 ^ (m + 2 + p)
target_of m InverseRoot y p = 2 ^ (3 * m + 4 - p)

-- q is the greatest number whose side is at most the target x, and `more` says that it is less
pub record Floored (op : Op) (y x q : ℕ) (more : Bool) : Type 0 where
  pub low : side op y q ≤ x
  pub high : x < side op y (suc q)
  pub rest : more ≡ not (eqb (side op y q) x)

-- the significand that a rounding takes of a floor q with a guard bit, by its rest: 0 away from zero, 1 to the nearest, 2 toward zero
unfoldable pub taken_by : ℕ → ℕ → Bool → ℕ
taken_by zero q more = (q + 1 + cond more 1 0) / 2
taken_by (suc zero) q more = (q + 1) / 2
taken_by (suc (suc _)) q more = q / 2

-- The operand is X = y / 2^m × 2^(j − u), y its significand, and a floor q at the scale k stands for q × 2^(k − 3) units of 2^-u.
-- 1 / X is 2^(2m + 2) / y × 2^(2u − m − 2 − j) units; √X is √(y × 2^(m + 2 + p)) × 2^((j + u − p) / 2 − m − 1) units;
-- 1 / √X is √(2^(3m + 4 − p) / y) × 2^((3u − j + p) / 2 − m − 2) units. The parity p makes the exponent whole, and k is 3 more
abbrev pub scale_of : Format → Op → ℕ → ℕ
scale_of f Reciprocal j = 2 * unit_of f + 1 - f.fraction_bits - j
scale_of f Root j = (j + (unit_of f + 4 - 2 * f.fraction_bits)) / 2
scale_of f InverseRoot j = (3 * unit_of f + 2 - 2 * f.fraction_bits - j + 1) / 2

abbrev pub parity_of : Format → Op → ℕ → ℕ
parity_of f Reciprocal j = 0
parity_of f Root j = (j + (unit_of f + 4 - 2 * f.fraction_bits)) % 2
parity_of f InverseRoot j = (3 * unit_of f + 2 - 2 * f.fraction_bits - j) % 2
