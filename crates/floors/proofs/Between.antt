-- Between which numbers the floor lies, from a raw answer and its distance, over k and t. Assumes nothing.
use Rattle.std.proofs.Common.{◌≡◌, ℕ, ◌+◌, ◌-◌, ◌*◌, ◌^◌, ◌<◌, ◌≤◌, [], ◌∷◌, ap, subst, lt_of_lt_of_le, lt_of_le_of_lt, arith}
use native.Mathlib.Nat.{lt_of_mul-lt-mul_left}
use Rattle.kinds.specs.declared.Op.{Op}
use Rattle.kinds.specs.declared.Op.TheVariants.{Reciprocal, Root, InverseRoot}
use Rattle.numbers.proofs.Exponents.{power-of}
use Rattle.ieee.specs.Rounded.{side}
use Rattle.ieee.specs.Floor.{target_of}
use Rattle.ieee.proofs.Neighbours.{side-rising}
use Rattle.significand.specs.Distance.{Under, Over}

-- a raw answer counts the result in finer steps: so many to one of the floor's [8, 16 and 8; 64, 128 and 64]
abbrev pub stride_of : ℕ → ℕ → Op → ℕ
stride_of k t Reciprocal = 2 ^ (k - t - 1)
stride_of k t Root = 2 ^ (k - t)
stride_of k t InverseRoot = 2 ^ (k - t - 1)

-- so that the target is taken so often where the finer number stands for q
spread_of : ℕ → Op → ℕ
spread_of s Reciprocal = s
spread_of s Root = s * s
spread_of s InverseRoot = s * s

spread : (op : Op) (s y q : ℕ) → side op y (s * q) ≡ spread_of s op * side op y q
unfolding spread_of
spread Reciprocal s y q = omega arith
spread Root s y q = omega arith
spread InverseRoot s y q = omega arith

module _ (k t y p : ℕ) (fine : t < k) (parity : p ≤ 1) where
  abbrev m : ℕ
  m = 3 * k + t - 1

  -- the powers of the distance are those of the targets
  reciprocal-power : 2 ^ (4 * k + m) ≡ 2 ^ (k - t - 1) * 2 ^ (2 * m + 2)
  reciprocal-power = power-of (4 * k + m) ((k - t - 1) ∷ (2 * m + 2) ∷ []) (omega arith)

  root-power : y * 2 ^ (8 * k + p) ≡ 2 ^ m * (2 ^ (k - t) * 2 ^ (k - t) * (y * 2 ^ (m + 2 + p)))
  root-power =
      omega (arith, ap (λ (n : ℕ). y * n) (power-of (8 * k + p) (m ∷ (k - t) ∷ (k - t) ∷ (m + 2 + p) ∷ []) (omega arith)))

  inverse-power : 2 ^ (8 * k + m) ≡ 2 ^ p * (2 ^ (k - t - 1) * 2 ^ (k - t - 1) * 2 ^ (3 * m + 4 - p))
  inverse-power = omega (arith, power-of (8 * k + m) (p ∷ (k - t - 1) ∷ (k - t - 1) ∷ (3 * m + 4 - p) ∷ []) (omega arith))

  -- a number below or above the exact result, in the raw unit's steps, is so by its side
  under-side : (op : Op) (v : ℕ) → Under op k m y p v → side op y v < spread_of (stride_of k t op) op * target_of m op y p
  unfolding spread_of
  under-side Reciprocal v h = omega (arith, reciprocal-power)
  under-side Root v h = lt_of_mul-lt-mul_left (2 ^ m) (omega (arith, root-power))
  under-side InverseRoot v h = lt_of_mul-lt-mul_left (2 ^ p) (omega (arith, inverse-power))

  over-side : (op : Op) (v : ℕ) → Over op k m y p v → spread_of (stride_of k t op) op * target_of m op y p < side op y v
  unfolding spread_of
  over-side Reciprocal v h = omega (arith, reciprocal-power)
  over-side Root v h = lt_of_mul-lt-mul_left (2 ^ m) (omega (arith, root-power))
  over-side InverseRoot v h = lt_of_mul-lt-mul_left (2 ^ p) (omega (arith, inverse-power))

  -- a number whose steps are at most such a number is below the target, and one whose steps are at least such a number above it
  module _ (op : Op) (v q : ℕ) where
    pub side-under : Under op k m y p v → stride_of k t op * q ≤ v → side op y q < target_of m op y p
    side-under u h =
        lt_of_mul-lt-mul_left (spread_of (stride_of k t op) op)
        (subst (λ (n : ℕ). n < spread_of (stride_of k t op) op * target_of m op y p) (spread op (stride_of k t op) y q)
        (lt_of_le_of_lt (side-rising op y h) (under-side op v u)))

    pub side-over : Over op k m y p v → v ≤ stride_of k t op * q → target_of m op y p < side op y q
    side-over o h =
        lt_of_mul-lt-mul_left (spread_of (stride_of k t op) op)
        (subst (λ (n : ℕ). spread_of (stride_of k t op) op * target_of m op y p < n) (spread op (stride_of k t op) y q)
        (lt_of_lt_of_le (over-side op v o) (side-rising op y h)))
