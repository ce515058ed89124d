-- Steps 1 and 2: the index i, the factor R, and the reduction of y R to N ± a, where a has three digits. Assumes nothing.
use mathlib.Core.Path.{◌≡◌, refl, ap, ◌∙◌}
use mathlib.Core.Bool.{Bool, true, false}
use mathlib.Core.List.{[], ◌∷◌}
use Prim.Native.Nat.{ℕ, ◌+◌, ◌*◌, ◌-◌, ◌/◌, ◌^◌, ◌≤◌, ◌<◌}
use native.Mathlib.Nat.{mul-div-le, lt-mul-div-succ, div-mul-le_self, lt-div-mul-add, le-div_iff_mul-le, div-lt_iff_lt-mul, div-le_of_le-mul, mul-le-mul_left}
use native.Mathlib.Omega.{arith}
use lib.Pow.{pow_pos, pow_mono}
use lib.Dec.{leb}
use lib.IntN.{nat_abs}
use lib.Signed.{non_neg}
use borrow.Author.Tests.{leb-true, leb-false}
use Rattle.numbers.proofs.Differences.{pos-less, diff-sign, diff-abs}
use Rattle.numbers.proofs.Ring.{E, v, #, ◌⊕◌, ◌⊗◌, ◌⊙◌⊑◌, nlin}
use Rattle.numbers.proofs.Exponents.{power-of}
use Rattle.significand.specs.Steps.{index_of, factor_of, sign_of, reduced_of}
use Rattle.significand.specs.Width.{Significand}
use Rattle.significand.proofs.Scale.{whole_is}

module _ (k t y : ℕ) (h : 7 ≤ k) (Y : Significand k t y) where
  -- i is from 2^k to 2^(k + 1) − 1
  pub index-least : 2 ^ k ≤ index_of k t y
  unfolding index_of
  index-least =
      (le-div_iff_mul-le (pow_pos (2 * k + t - 1))).1
      (omega (arith, power-of (3 * k + t - 1) (k ∷ (2 * k + t - 1) ∷ []) (omega arith), Y.least))

  pub index_below : index_of k t y < 2 ^ (k + 1)
  unfolding index_of
  index_below =
      (div-lt_iff_lt-mul (pow_pos (2 * k + t - 1))).1
      (omega (arith, power-of (3 * k + t) ((k + 1) ∷ (2 * k + t - 1) ∷ []) (omega arith), Y.below))

-- R is from 2^k to 2^(k + 1)
pub factor-least : (k i : ℕ) → 0 < i → i ≤ 2 ^ (k + 1) → 2 ^ k ≤ factor_of k i
unfolding factor_of
factor-least k i p h =
    (le-div_iff_mul-le p).1 (omega (arith, power-of (2 * k + 1) (k ∷ (k + 1) ∷ []) (omega arith), mul-le-mul_left (2 ^ k) h))

pub factor-most : (k i : ℕ) → 2 ^ k ≤ i → factor_of k i ≤ 2 ^ (k + 1)
unfolding factor_of
factor-most k i h =
    div-le_of_le-mul i (omega (arith, power-of (2 * k + 1) (k ∷ (k + 1) ∷ []) (omega arith), mul-le-mul_left (2 ^ (k + 1)) h))

-- the variables Z, T, y, i, R, and w = 2^(2k + t − 1), of which an index counts the multiples in y
abbrev Z' : E
Z' = v 0

abbrev T' : E
T' = v 1

abbrev y' : E
y' = v 2

abbrev i' : E
i' = v 3

abbrev R' : E
R' = v 4

abbrev w' : E
w' = v 5

-- i is y / w, floored, and R is 2 Z² / i, floored, with 2 w = T Z²
record Indexed (Z T y i R w : ℕ) : Type 0 where
  half : 2 * w ≡ T * Z * Z
  index-low : i * w ≤ y
  index-high : y < i * w + w
  index-most : i < 2 * Z
  factor-low : R * i ≤ 2 * Z * Z
  factor-high : 2 * Z * Z < R * i + i
  factor-top : R ≤ 2 * Z

-- y R is less than T Z³ from T N
module _ (Z T y i R w : ℕ) (I : Indexed Z T y i R w) where
  apart_above : y * R + R ≤ T * (Z * Z * Z * Z) + T * (Z * Z * Z)
  apart_above =
      nlin (Z ∷ T ∷ y ∷ i ∷ R ∷ w ∷ [])
      (R' ⊙ y' ⊕ # 1 ⊑ i' ⊗ w' ⊕ w'
      ∷ w' ⊙ R' ⊗ i' ⊑ # 2 ⊗ Z' ⊗ Z'
      ∷ w' ⊙ R' ⊑ # 2 ⊗ Z'
      ∷ Z' ⊗ Z' ⊕ Z' ⊙ # 2 ⊗ w' ⊑ T' ⊗ Z' ⊗ Z'
      ∷ [])
      (y' ⊗ R' ⊕ R') (T' ⊗ (Z' ⊗ Z' ⊗ Z' ⊗ Z') ⊕ T' ⊗ (Z' ⊗ Z' ⊗ Z')) tt (omega arith)

  apart_below : T * (Z * Z * Z * Z) + 2 * w ≤ y * R + T * (Z * Z * Z)
  apart_below =
      nlin (Z ∷ T ∷ y ∷ i ∷ R ∷ w ∷ [])
      (R' ⊙ i' ⊗ w' ⊑ y'
      ∷ w' ⊙ # 2 ⊗ Z' ⊗ Z' ⊕ # 1 ⊑ R' ⊗ i' ⊕ i'
      ∷ w' ⊙ i' ⊕ # 1 ⊑ # 2 ⊗ Z'
      ∷ Z' ⊙ # 2 ⊗ w' ⊑ T' ⊗ Z' ⊗ Z'
      ∷ Z' ⊗ Z' ⊙ T' ⊗ Z' ⊗ Z' ⊑ # 2 ⊗ w'
      ∷ [])
      (T' ⊗ (Z' ⊗ Z' ⊗ Z' ⊗ Z') ⊕ # 2 ⊗ w') (y' ⊗ R' ⊕ T' ⊗ (Z' ⊗ Z' ⊗ Z')) tt (omega arith)

-- the sign and a of u by its order beside C, which is 2^(4k + t)
module _ (k t u : ℕ) where
  abbrev C : ℕ
  C = 2 ^ (4 * k + t)

  sign-by : sign_of k t u ≡ leb C u
  unfolding sign_of
  sign-by = ap non_neg (pos-less u C) ∙ diff-sign u C

  reduced-by : reduced_of k t u ≡ ((u - C) + (C - u)) / 2 ^ t
  unfolding reduced_of
  reduced-by = ap (λ (n : ℕ). n / 2 ^ t) (ap nat_abs (pos-less u C) ∙ diff-abs u C)

-- what u / T is close to: N + a, or N − a − 1
abbrev pub scaled_of : Bool → ℕ → ℕ → ℕ
scaled_of true N a = N + a
scaled_of false N a = N - a - 1

-- a is |u − T N| / T, floored: u is T times a number from N + a to N + a + 1, or from N − a − 1 to N − a
pub record Reduced (sign : Bool) (N T u a : ℕ) : Type 0 where
  pub from : T * scaled_of sign N a ≤ u
  pub upto : u ≤ T * (scaled_of sign N a + 1)

module _ (N C T u : ℕ) (positive : 0 < T) (low : T * N < u + T * C) (high : u < T * N + T * C) where
  abbrev distance : ℕ
  distance = (u - T * N) + (T * N - u)

  reduced-below : distance / T < C
  reduced-below = (div-lt_iff_lt-mul positive).1 (omega arith)

  reduced-at : (sign : Bool) → leb (T * N) u ≡ sign → C ≤ N → Reduced sign N T u (distance / T)
  reduced-at true e c =
      record {
        from = omega (arith, leb-true (T * N) u e, mul-div-le distance T);
        upto = omega (arith, leb-true (T * N) u e, lt-mul-div-succ distance positive);
      }
  reduced-at false e c =
      let a : ℕ = distance / T in
      let is : N - a - 1 + 1 + a ≡ N = omega (arith, reduced-below) in
      record {
        from = omega (arith, leb-false (T * N) u e, lt-mul-div-succ distance positive, ap (λ (n : ℕ). T * n) is);
        upto = omega (arith, leb-false (T * N) u e, mul-div-le distance T, ap (λ (n : ℕ). T * n) is);
      }

-- y R itself
module _ (k t y : ℕ) (h : 7 ≤ k) (Y : Significand k t y) where
  abbrev i : ℕ
  i = index_of k t y

  abbrev r : ℕ
  r = factor_of k i

  pub least : 2 ^ k ≤ r
  least = factor-least k i (omega (arith, index-least k t y h Y, pow_pos k)) (omega (arith, index_below k t y h Y))

  pub most : r ≤ 2 ^ (k + 1)
  most = factor-most k i (index-least k t y h Y)

  next : 2 ^ (k + 1) ≡ 2 * 2 ^ k
  next = power-of (k + 1) (1 ∷ k ∷ []) (omega arith)

  square : 2 ^ (2 * k + 1) ≡ 2 * 2 ^ k * 2 ^ k
  square = omega (arith, power-of (2 * k + 1) (1 ∷ k ∷ k ∷ []) (omega arith))

  indexed : Indexed (2 ^ k) (2 ^ t) y i r (2 ^ (2 * k + t - 1))
  unfolding index_of factor_of
  indexed =
      record {
        half = omega (arith, power-of (2 * k + t) (1 ∷ (2 * k + t - 1) ∷ []) (omega arith), power-of (2 * k + t) (t ∷ k ∷ k ∷ []) (omega arith));
        index-low = div-mul-le_self y (2 ^ (2 * k + t - 1));
        index-high = lt-div-mul-add (pow_pos (2 * k + t - 1));
        index-most = omega (arith, index_below k t y h Y, next);
        factor-low = omega (arith, div-mul-le_self (2 ^ (2 * k + 1)) i, square);
        factor-high = omega (arith, lt-div-mul-add {a = 2 ^ (2 * k + 1)} {b = i} (omega (arith, index-least k t y h Y, pow_pos k)), square);
        factor-top = omega (arith, most, next);
      }

  -- T N and T Z³
  scale : 2 ^ (4 * k + t) ≡ 2 ^ t * 2 ^ (4 * k)
  scale = power-of (4 * k + t) (t ∷ 4 * k ∷ []) (omega arith)

  whole : 2 ^ t * 2 ^ (4 * k) ≡ 2 ^ t * (2 ^ k * 2 ^ k * 2 ^ k * 2 ^ k)
  whole = ap (λ (n : ℕ). 2 ^ t * n) (whole_is k)

  cube : 2 ^ t * 2 ^ (3 * k) ≡ 2 ^ t * (2 ^ k * 2 ^ k * 2 ^ k)
  cube = omega (arith, ap (λ (n : ℕ). 2 ^ t * n) (power-of (3 * k) (k ∷ k ∷ k ∷ []) (omega arith)))

  low : 2 ^ t * 2 ^ (4 * k) < y * r + 2 ^ t * 2 ^ (3 * k)
  low = omega (arith, apart_below (2 ^ k) (2 ^ t) y i r (2 ^ (2 * k + t - 1)) indexed, whole, cube, pow_pos (2 * k + t - 1))

  high : y * r < 2 ^ t * 2 ^ (4 * k) + 2 ^ t * 2 ^ (3 * k)
  high = omega (arith, apart_above (2 ^ k) (2 ^ t) y i r (2 ^ (2 * k + t - 1)) indexed, whole, cube, least, pow_pos k)

  -- a has three digits
  pub reduced-small : reduced_of k t (y * r) < 2 ^ (3 * k)
  reduced-small = rw (reduced-by, scale) (reduced-below (2 ^ (4 * k)) (2 ^ (3 * k)) (2 ^ t) (y * r) (pow_pos t) low high)

  -- and y R is T (N + a) or T (N − a), but for less than T
  pub reduced : Reduced (sign_of k t (y * r)) (2 ^ (4 * k)) (2 ^ t) (y * r) (reduced_of k t (y * r))
  reduced =
      rw (sign-by, reduced-by, scale)
      (reduced-at (2 ^ (4 * k)) (2 ^ (3 * k)) (2 ^ t) (y * r) (pow_pos t) low high (leb (2 ^ t * 2 ^ (4 * k)) (y * r)) refl (pow_mono (omega arith)))
