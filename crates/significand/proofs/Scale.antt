-- The unit's powers of two over k, t and p. What is over the exact value is above 2^(4k − 1). Assumes nothing.
use mathlib.Core.Path.{◌≡◌, ap}
use mathlib.Core.List.{[], ◌∷◌}
use Prim.Native.Nat.{ℕ, ◌+◌, ◌*◌, ◌-◌, ◌^◌, ◌≤◌, ◌<◌}
use native.Mathlib.Nat.{mul-le-mul_left, lt_of_mul-lt-mul_right}
use native.Mathlib.Omega.{arith}
use lib.Pow.{pow_pos, pow_mono}
use Rattle.kinds.specs.declared.Op.{Op}
use Rattle.kinds.specs.declared.Op.TheVariants.{Reciprocal, Root, InverseRoot}
use Rattle.numbers.proofs.Exponents.{power-of}
use Rattle.numbers.proofs.Squares.{square-below}
use Rattle.significand.specs.Width.{Significand}
use Rattle.significand.specs.Distance.{Over}
use Rattle.significand.proofs.Series.{whole-big}
use Rattle.significand.proofs.Units.{Setting}

-- Z = 2^k, N = 2^(4k)
pub radix-big : (k : ℕ) → 7 ≤ k → 128 ≤ 2 ^ k
radix-big k h = pow_mono h

pub whole_is : (k : ℕ) → 2 ^ (4 * k) ≡ 2 ^ k * 2 ^ k * 2 ^ k * 2 ^ k
whole_is k = omega (arith, power-of (4 * k) (k ∷ k ∷ k ∷ k ∷ []) (omega arith))

pub whole-least : (k : ℕ) → 7 ≤ k → 128 ≤ 2 ^ (4 * k)
whole-least k h = omega (arith, whole_is k, whole-big (2 ^ k) (radix-big k h))

-- a significand is from 2^m up, and below twice that
pub twice : (k t : ℕ) → 7 ≤ k → 2 ^ (3 * k + t) ≡ 2 * 2 ^ (3 * k + t - 1)
twice k t h = power-of (3 * k + t) (1 ∷ (3 * k + t - 1) ∷ []) (omega arith)

pub parity-most : (p : ℕ) → p ≤ 1 → 2 ^ p ≤ 2
parity-most p h = pow_mono h

pub setting : (k t y r p : ℕ) → 7 ≤ k → p ≤ 1 → Significand k t y → 2 ^ k ≤ r → r ≤ 2 ^ (k + 1)
    → Setting (2 ^ k) (2 ^ (4 * k)) (2 ^ t) (2 ^ (3 * k + t - 1)) (2 ^ p) y r
setting k t y r p h e Y least most =
    record {
      whole = whole_is k;
      half = omega (arith, twice k t h, power-of (3 * k + t) (t ∷ k ∷ k ∷ k ∷ []) (omega arith));
      big = whole-least k h;
      radix = pow_pos k;
      unit = pow_pos t;
      significand = omega (arith, pow_pos (3 * k + t - 1), Y);
      factor-least = least;
      factor-most = omega (arith, power-of (k + 1) (1 ∷ k ∷ []) (omega arith), most);
      parity-least = pow_pos p;
      parity-most = parity-most p e;
    }

-- the powers that the exact values are compared with
pub quotient-scale : (k m : ℕ) → 2 ^ (4 * k + m) ≡ 2 ^ (4 * k) * 2 ^ m
quotient-scale k m = power-of (4 * k + m) (4 * k ∷ m ∷ []) (omega arith)

pub square-scale : (k m : ℕ) → 2 ^ (8 * k + m) ≡ 2 ^ (4 * k) * 2 ^ (4 * k) * 2 ^ m
square-scale k m = omega (arith, power-of (8 * k + m) (4 * k ∷ 4 * k ∷ m ∷ []) (omega arith))

-- the powers of the two rules for M
pub root-power : (k p : ℕ) → 2 ^ (9 * k + 1 + p) ≡ 2 * 2 ^ k * 2 ^ (4 * k) * 2 ^ (4 * k) * 2 ^ p
root-power k p = omega (arith, power-of (9 * k + 1 + p) (1 ∷ k ∷ 4 * k ∷ 4 * k ∷ p ∷ []) (omega arith))

pub inverse-power : (k p : ℕ) → 2 ^ (k + 1 + p) ≡ 2 * 2 ^ k * 2 ^ p
inverse-power k p = omega (arith, power-of (k + 1 + p) (1 ∷ k ∷ p ∷ []) (omega arith))

pub whole-square : (k : ℕ) → 2 ^ (8 * k) ≡ 2 ^ (4 * k) * 2 ^ (4 * k)
whole-square k = power-of (8 * k) (4 * k ∷ 4 * k ∷ []) (omega arith)

module _ (k t y p x : ℕ) (h : 7 ≤ k) (e : p ≤ 1) (Y : Significand k t y) where
  abbrev N : ℕ
  N = 2 ^ (4 * k)

  abbrev m : ℕ
  m = 3 * k + t - 1

  abbrev P : ℕ
  P = 2 ^ (3 * k + t - 1)

  abbrev X : ℕ
  X = 2 ^ p

  top : y < 2 * P
  top = omega (arith, twice k t h, Y.below)

  radicand : y * 2 ^ (8 * k + p) ≡ y * (N * N * X)
  radicand = ap (λ (n : ℕ). y * n) (square-scale k p)

  pub over-least : (op : Op) → Over op k (3 * k + t - 1) y p x → N < 2 * x
  over-least Reciprocal o = lt_of_mul-lt-mul_right P (omega (arith, quotient-scale k m, mul-le-mul_left x top, o))
  over-least Root o =
      let i : N * N * P < x * x * P =
      omega (arith, radicand, mul-le-mul_left (N * N) Y.least, mul-le-mul_left (N * N * y) (pow_pos p), o) in
      omega (arith, square-below N x (lt_of_mul-lt-mul_right P i))
  over-least InverseRoot o =
      let i : N * N * P < 2 * x * (2 * x) * P =
      omega (arith, square-scale k m, mul-le-mul_left (2 * x * x) top, mul-le-mul_left (x * x * y) (parity-most p e), o) in
      square-below N (2 * x) (lt_of_mul-lt-mul_right P i)
