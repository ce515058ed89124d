-- Step 4: the M of both roots is nearest to the exact M, and so within one unit of it; the test that a number is at most M. Assumes nothing.
use mathlib.Core.Path.{◌≡◌, refl, ap}
use mathlib.Core.List.{[], ◌∷◌}
use Prim.Native.Nat.{ℕ, ◌+◌, ◌*◌, ◌-◌, ◌^◌, ◌≤◌, ◌<◌}
use native.Mathlib.Nat.{mul-le-mul, mul-le-mul_left, mul-le-mul_right, mul-pos}
use native.Mathlib.Omega.{arith}
use lib.Dec.{leb}
use lib.Pow.{pow_pos}
use Rattle.kinds.specs.declared.Op.{Op}
use Rattle.kinds.specs.declared.Op.TheVariants.{Reciprocal, Root, InverseRoot}
use Rattle.numbers.specs.Nearest.{half_below, Nearest}
use Rattle.numbers.proofs.Exponents.{power-of}
use Rattle.numbers.proofs.Nearest.{nearest-root, half-upto, nearest-within}
use Rattle.significand.specs.Steps.{factor_of, multiplier_of}
use Rattle.significand.proofs.Untied.{root-untied, inverse-untied}
use Rattle.significand.proofs.Scale.{parity-most, root-power, inverse-power, whole-square}
use Rattle.significand.proofs.General.{Multiplies}
use Rattle.significand.proofs.Reduction.{factor-least, factor-most}

-- every R that is from 2^k to 2^(k + 1)
module _ (k r p : ℕ) (h : 1 ≤ k) (e : p ≤ 1) (least : 2 ^ k ≤ r) (most : r ≤ 2 ^ (k + 1)) where
  abbrev Z : ℕ
  Z = 2 ^ k

  abbrev N : ℕ
  N = 2 ^ (4 * k)

  -- what the exact M of either root is the root of: n / d
  abbrev root_n : ℕ
  root_n = 2 ^ (9 * k + 1 + p)

  abbrev inverse_d : ℕ
  inverse_d = 2 ^ (k + 1 + p)

  abbrev inverse_n : ℕ
  inverse_n = r * 2 ^ (8 * k)

  positive : 0 < r
  positive = omega (arith, least, pow_pos k)

  -- 3 N has 4k + 2 bits, and its half below is above either exact M
  three : 3 * N < 2 ^ (4 * k + 2)
  three = omega (arith, power-of (4 * k + 2) (2 ∷ 4 * k ∷ []) (omega arith), pow_pos (4 * k))

  large : (d n : ℕ) → 4 * n ≤ 25 * (N * N * d) → 4 * n ≤ (2 * (3 * N) - 1) * (2 * (3 * N) - 1) * d
  large d n i =
      let five : 5 * N ≤ 2 * (3 * N) - 1 = omega (arith, pow_pos (4 * k)) in
      omega (arith, mul-le-mul_right d (mul-le-mul five five))

  root-large : 4 * root_n ≤ (2 * (3 * N) - 1) * (2 * (3 * N) - 1) * r
  root-large = large r root_n (omega (arith, root-power k p, mul-le-mul_left (8 * Z * N * N) (parity-most p e), mul-le-mul_left (N * N) least))

  inverse-large : 4 * inverse_n ≤ (2 * (3 * N) - 1) * (2 * (3 * N) - 1) * inverse_d
  inverse-large =
      large inverse_d inverse_n
      (omega (
        arith,
        ap (λ (m : ℕ). N * N * m) (inverse-power k p),
        ap (λ (m : ℕ). r * m) (whole-square k),
        mul-le-mul_left (N * N) most,
        ap (λ (m : ℕ). N * N * m) (power-of (k + 1) (1 ∷ k ∷ []) (omega arith)),
        mul-le-mul_left (N * N * Z) (pow_pos p),
      ))

  root-some : 0 < root_n
  root-some = pow_pos (9 * k + 1 + p)

  inverse-some : 0 < inverse_n
  inverse-some = mul-pos positive (pow_pos (8 * k))

  -- NEAREST: no other whole number is as near to the exact M as M is
  pub root-nearest : Nearest r root_n (multiplier_of k Root r p)
  unfolding multiplier_of
  root-nearest = nearest-root (4 * k + 2) r root_n (3 * N) root-some three root-large (root-untied k r p h e least most)

  pub inverse-root-nearest : Nearest inverse_d inverse_n (multiplier_of k InverseRoot r p)
  unfolding multiplier_of
  inverse-root-nearest = nearest-root (4 * k + 2) inverse_d inverse_n (3 * N) inverse-some three inverse-large (inverse-untied k r p h e least most)

  -- UP TO M: the numbers whose half below is under the exact M
  pub root-upto : (w : ℕ) → half_below r (2 ^ (9 * k + 1 + p)) w ≡ leb w (multiplier_of k Root r p)
  unfolding multiplier_of
  root-upto = half-upto (4 * k + 2) r root_n (3 * N) root-some three root-large

  pub inverse-root-upto : (w : ℕ) → half_below (2 ^ (k + 1 + p)) (r * 2 ^ (8 * k)) w ≡ leb w (multiplier_of k InverseRoot r p)
  unfolding multiplier_of
  inverse-root-upto = half-upto (4 * k + 2) inverse_d inverse_n (3 * N) inverse-some three inverse-large

  pub multiplies : (op : Op) → Multiplies op k r p (multiplier_of k op r p)
  unfolding multiplier_of
  multiplies Reciprocal = refl
  multiplies Root = nearest-within r root_n _ root-some root-nearest
  multiplies InverseRoot = nearest-within inverse_d inverse_n _ inverse-some inverse-root-nearest

-- every entry of a table by i
module _ (k i p : ℕ) (h : 1 ≤ k) (e : p ≤ 1) (from : 2 ^ k ≤ i) (below : i < 2 ^ (k + 1)) where
  abbrev R : ℕ
  R = factor_of k i

  least : 2 ^ k ≤ R
  least = factor-least k i (omega (arith, from, pow_pos k)) (omega arith)

  most : R ≤ 2 ^ (k + 1)
  most = factor-most k i from

  pub root-entry-nearest : Nearest (factor_of k i) (2 ^ (9 * k + 1 + p)) (multiplier_of k Root (factor_of k i) p)
  root-entry-nearest = root-nearest k R p h e least most

  pub inverse-root-entry-nearest : Nearest (2 ^ (k + 1 + p)) (factor_of k i * 2 ^ (8 * k)) (multiplier_of k InverseRoot (factor_of k i) p)
  inverse-root-entry-nearest = inverse-root-nearest k R p h e least most
