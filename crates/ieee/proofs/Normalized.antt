-- A magnitude that is a significand times a power of two has that significand, and the parity that a root works with. Assumes nothing.
use mathlib.Core.Path.{◌≡◌}
use mathlib.Core.Bool.{false, true≢false}
use mathlib.Core.List.{[], ◌∷◌}
use Prim.Native.Nat.{ℕ, suc, ◌+◌, ◌*◌, ◌-◌, ◌%◌, ◌^◌, ◌≤◌, ◌<◌}
use native.Mathlib.Nat.{le_of_mul-le-mul_left, lt_of_mul-lt-mul_left, mul-le-mul_right, mul-lt-mul_of_pos_right, mul-div_cancel, le_trans}
use native.Mathlib.Omega.{arith}
use mir.Facts.{leb_yes, yes_leb}
use lib.Dec.{leb}
use lib.Pow.{pow_pos, pow_mono}
use Rattle.kinds.specs.declared.Op.{Op}
use Rattle.kinds.specs.declared.Op.TheVariants.{Reciprocal, Root, InverseRoot}
use Rattle.kinds.specs.Operation.{is_reciprocal}
use Rattle.numbers.proofs.Exponents.{power-of}
use Rattle.numbers.proofs.Greatest.{Antitone, greatest-is}
use Rattle.ieee.specs.Format.{Format, unit_of}
use Rattle.ieee.specs.Normalized.{highest_of, significand_of, exponent_parity}
use Rattle.ieee.specs.Floor.{parity_of}

-- the parities of both roots over m and u
root-even : (m u j : ℕ) → 4 * m + 4 ≤ u → (j + (u + 4 - 2 * m)) % 2 ≡ (j + u) % 2
root-even m u j wide = omega arith

inverse-even : (m u j : ℕ) → 4 * m + 4 ≤ u → j ≤ 2 * u + 1 - m → (3 * u + 2 - 2 * m - j) % 2 ≡ (j + u) % 2
inverse-even m u j wide small = omega arith

module _ (f : Format) (x y j : ℕ) (is : x * 2 ^ f.fraction_bits ≡ y * 2 ^ j) (least : 2 ^ f.fraction_bits ≤ y)
    (below : y < 2 ^ suc f.fraction_bits) (few : j < 2 ^ (f.exponent_bits + 1)) where
  abbrev m : ℕ
  m = f.fraction_bits

  -- the highest bit of x is at j
  from : 2 ^ j ≤ x
  from = le_of_mul-le-mul_left {k = 2 ^ m} (omega (arith, is, mul-le-mul_right (2 ^ j) least)) (pow_pos m)

  upto : x < 2 ^ suc j
  upto =
      lt_of_mul-lt-mul_left (2 ^ m)
      (omega (
        arith,
        is,
        mul-lt-mul_of_pos_right {k = 2 ^ j} below (pow_pos j),
        power-of (suc m + j) (suc m ∷ j ∷ []) (omega arith),
        power-of (suc m + j) (m ∷ suc j ∷ []) (omega arith),
      ))

  falling : Antitone (λ (n : ℕ). leb (2 ^ n) x)
  falling a b h t = yes_leb (le_trans (pow_mono h) (leb_yes t))

  pub highest-is : highest_of f x ≡ j
  unfolding highest_of
  highest-is =
      greatest-is (f.exponent_bits + 1) (λ (n : ℕ). leb (2 ^ n) x) falling j (yes_leb from)
      (λ t. let l : 2 ^ suc j ≤ x = leb_yes t in omega (arith, upto)) few

  -- so y is the significand
  pub significand-is : significand_of f x ≡ y
  unfolding significand_of
  significand-is = rw (highest-is, is) (mul-div_cancel y (pow_pos j))

  -- and the parity of a root is that of the exponent
  pub parity-is : (op : Op) → is_reciprocal op ≡ false → 4 * f.fraction_bits + 4 ≤ unit_of f → j ≤ 2 * unit_of f + 1 - f.fraction_bits
      → parity_of f op j ≡ exponent_parity f x
  unfolding exponent_parity
  parity-is Reciprocal e wide small = absurd (true≢false e)
  parity-is Root e wide small = rw highest-is (root-even m (unit_of f) j wide)
  parity-is InverseRoot e wide small = rw highest-is (inverse-even m (unit_of f) j wide small)
