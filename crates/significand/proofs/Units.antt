-- From M and the series b to the answer g, which is M b / N, floored: where M is within one unit of the exact M, a root is within seven
-- of the exact value. Assumes nothing.
use mathlib.Core.Path.{◌≡◌, ap}
use mathlib.Core.List.{[], ◌∷◌}
use Prim.Native.Nat.{ℕ, ◌+◌, ◌*◌, ◌-◌, ◌≤◌, ◌<◌}
use native.Mathlib.Nat.{mul-le-mul, mul-le-mul_left, mul-le-mul_right, mul-sub, mul-pos, lt_of_mul-lt-mul_left}
use native.Mathlib.Omega.{arith}
use Rattle.kinds.specs.declared.Op.TheVariants.{Reciprocal, Root, InverseRoot}
use Rattle.numbers.proofs.Ring.{E, v, #, ◌⊕◌, ◌⊗◌, ◌⊙◌⊑◌, nlin, nlin×}
use Rattle.numbers.proofs.Products.{cancel-lt, squares-below, squares-above}
use Rattle.numbers.proofs.Squares.{square-below}
use Rattle.significand.proofs.Close.{Close}

-- M is at most 2 N for the root, and at most N for the others
module _ (Z N X R M : ℕ) where
  pub root-multiplier : Z ≤ R → X ≤ 2 → R * ((M - 1) * (M - 1)) < 2 * Z * N * N * X → M ≤ 2 * N
  root-multiplier h e low =
      let i : 2 * Z * N * N * X ≤ R * (2 * N * (2 * N)) = omega (arith, mul-le-mul_left (2 * Z * N * N) e, mul-le-mul_right (4 * N * N) h) in
      let j : (M - 1) * (M - 1) < 2 * N * (2 * N) = lt_of_mul-lt-mul_left R (omega (arith, i)) in
      omega (arith, square-below (M - 1) (2 * N) j)

  pub inverse-multiplier : R ≤ 2 * Z → 1 ≤ X → 2 * Z * X * ((M - 1) * (M - 1)) < R * (N * N) → M ≤ N
  inverse-multiplier h e low =
      let m : ℕ = (M - 1) * (M - 1) in
      let i : 2 * Z * m ≤ 2 * Z * X * m = omega (arith, mul-le-mul_left (2 * Z * m) e) in
      let j : 2 * Z * m < 2 * Z * (N * N) = omega (arith, i, mul-le-mul_right (N * N) h) in
      omega (arith, square-below (M - 1) N (lt_of_mul-lt-mul_left (2 * Z) j))

  pub recip-multiplier : R ≤ 2 * Z → N ≡ Z * Z * Z * Z → 2 * M ≡ R * (Z * Z * Z) → M ≤ N
  recip-multiplier h whole exactly = omega (arith, mul-le-mul_right (Z * Z * Z) h, whole)

-- N is Z⁴, T = 2^t, P = 2^m with 2 P = T Z³, X = 2^p, and R from Z to 2 Z
pub record Setting (Z N T P X y R : ℕ) : Type 0 where
  pub whole : N ≡ Z * Z * Z * Z
  pub half : 2 * P ≡ T * Z * Z * Z
  pub big : 128 ≤ N
  pub radix : 0 < Z
  pub unit : 0 < T
  pub significand : 0 < y
  pub factor-least : Z ≤ R
  pub factor-most : R ≤ 2 * Z
  pub parity-least : 1 ≤ X
  pub parity-most : X ≤ 2

-- g is M b / N, floored
pub record Floored (N M b g : ℕ) : Type 0 where
  pub low : g * N ≤ M * b
  pub high : M * b < g * N + N

module _ {N M b g : ℕ} (big : 128 ≤ N) (F : Floored N M b g) (most : 64 * b ≤ 65 * N) where
  -- (g − 7) N ≤ (b − 2) (M − 1)
  product-under : M ≤ 2 * N → (g - 7) * N ≤ (b - 2) * (M - 1)
  product-under m =
      go (b - 2) (M - 1) (omega arith) (omega arith) (omega arith)
    where
      go : (c μ : ℕ) → b ≤ c + 2 → M ≤ μ + 1 → c + 2 * μ + 2 ≤ 7 * N → (g - 7) * N ≤ c * μ
      go c μ e f l = omega (arith, mul-le-mul f e, mul-sub N g 7, F)

  -- (b + 2) (M + 1) ≤ (g + 7) N
  product-over : M ≤ 2 * N → (b + 2) * (M + 1) ≤ (g + 7) * N
  product-over m = omega (arith, F)

  -- (2 b + 9) (M + 1) ≤ 2 (g + 7) N
  product-twice : M ≤ N → (2 * b + 9) * (M + 1) ≤ 2 * ((g + 7) * N)
  product-twice m = omega (arith, F)

-- the variables Z, N, T, P, y, R, M, b, g
abbrev Z' : E
Z' = v 0

abbrev N' : E
N' = v 1

abbrev T' : E
T' = v 2

abbrev P' : E
P' = v 3

abbrev y' : E
y' = v 4

abbrev R' : E
R' = v 5

abbrev M' : E
M' = v 6

abbrev b' : E
b' = v 7

abbrev g' : E
g' = v 8

abbrev Z³ : E
Z³ = Z' ⊗ Z' ⊗ Z'

module _ {Z N T P X y R M b g : ℕ} (K : Setting Z N T P X y R) (F : Floored N M b g) where
  -- the root: (M − 1)² R < 2 Z N² X < (M + 1)² R
  module _ (low : R * ((M - 1) * (M - 1)) < 2 * Z * N * N * X) (high : 2 * Z * N * N * X < R * ((M + 1) * (M + 1))) where
    root-top : M ≤ 2 * N
    root-top = root-multiplier Z N X R M K.factor-least K.parity-most low

    module _ (C : Close Root N T (y * R) b) where
      positive : 0 < N * (y * R)
      positive = mul-pos (omega arith) (mul-pos K.significand (omega arith))

      pub root-under : (g - 7) * (g - 7) * P < y * (N * N * X)
      root-under =
          let e : ℕ = g - 7 in
          cancel-lt (2 * R * N * N) (Z * Z * Z) (mul-pos (mul-pos K.radix K.radix) K.radix)
          (omega (arith, ap (λ (m : ℕ). R * N * N * e * e * m) K.half))
          (omega (arith, ap (λ (m : ℕ). 2 * y * R * N * N * N * X * m) K.whole))
          (squares-below T R (b - 2) (M - 1) C.high low (product-under K.big F C.most root-top) positive)

      pub root_over : y * (N * N * X) < (g + 7) * (g + 7) * P
      root_over =
          let e : ℕ = g + 7 in
          cancel-lt (2 * R * N * N) (Z * Z * Z) (mul-pos (mul-pos K.radix K.radix) K.radix)
          (omega (arith, ap (λ (m : ℕ). 2 * y * R * N * N * N * X * m) K.whole))
          (omega (arith, ap (λ (m : ℕ). R * N * N * e * e * m) K.half))
          (squares-above T R (b + 2) (M + 1) C.low high (product-over K.big F C.most root-top) positive)

  -- the inverse root: (M − 1)² 2 Z X < R N² < (M + 1)² 2 Z X
  module _ (low : 2 * Z * X * ((M - 1) * (M - 1)) < R * (N * N)) (high : R * (N * N) < 2 * Z * X * ((M + 1) * (M + 1))) where
    inverse-top : M ≤ N
    inverse-top = inverse-multiplier Z N X R M K.factor-most K.parity-least low

    module _ (C : Close InverseRoot N T (y * R) b) where
      exact-positive : 0 < N * N * N * T
      exact-positive = mul-pos (mul-pos (mul-pos (omega arith) (omega arith)) (omega arith)) K.unit

      -- 2 P Z is N T, both multiplied by R N⁴
      exact : 2 * Z * R * N * N * (N * N * P) ≡ N * N * N * T * (R * (N * N))
      exact =
          omega (arith, ap (λ (m : ℕ). Z * R * N * N * N * N * m) K.half, ap (λ (m : ℕ). R * N * N * N * N * T * m) K.whole)

      pub inverse-under : (g - 7) * (g - 7) * (y * X) < N * N * P
      inverse-under =
          let e : ℕ = g - 7 in
          cancel-lt (2 * Z * R * N * N) 1 (omega arith) (omega arith) (omega (arith, exact))
          (squares-below (y * R) (2 * Z * X) (b - 2) (M - 1) C.high low
          (product-under K.big F C.most (omega (arith, inverse-top))) exact-positive)

      pub inverse-over : N * N * P < (g + 7) * (g + 7) * (y * X)
      inverse-over =
          cancel-lt (8 * Z * R * N * N) 1 (omega arith) (omega (arith, exact)) (omega arith)
          (squares-above (y * R) (2 * Z * X) (2 * b + 9) (M + 1) C.low high
          (product-twice K.big F C.most inverse-top) (omega (arith, exact-positive)))

  -- the reciprocal: 2 M is R Z³
  module _ (exactly : 2 * M ≡ R * (Z * Z * Z)) where
    recip-top : M ≤ N
    recip-top = recip-multiplier Z N X R M K.factor-most K.whole exactly

    module _ (C : Close Reciprocal N T (y * R) b) where
      pub recip-under : 2 * g * y ≤ 2 * N * P + 9 * y
      recip-under =
          nlin× (Z ∷ N ∷ T ∷ P ∷ y ∷ R ∷ M ∷ b ∷ g ∷ []) (# 2 ⊗ N')
          (# 4 ⊗ y' ⊙ g' ⊗ N' ⊑ M' ⊗ b'
          ∷ # 2 ⊗ b' ⊗ y' ⊙ # 2 ⊗ M' ⊑ R' ⊗ Z³
          ∷ Z³ ⊙ # 2 ⊗ b' ⊗ (y' ⊗ R') ⊑ # 2 ⊗ N' ⊗ N' ⊗ T' ⊕ # 9 ⊗ (y' ⊗ R')
          ∷ # 2 ⊗ N' ⊗ N' ⊙ T' ⊗ Z' ⊗ Z' ⊗ Z' ⊑ # 2 ⊗ P'
          ∷ # 9 ⊗ y' ⊙ R' ⊗ Z³ ⊑ # 2 ⊗ M'
          ∷ # 18 ⊗ y' ⊙ M' ⊑ N'
          ∷ [])
          (# 2 ⊗ g' ⊗ y') (# 2 ⊗ N' ⊗ P' ⊕ # 9 ⊗ y') tt (omega arith) (omega (arith, recip-top))

      pub recip-over : N * P < (g + 12) * y
      recip-over =
          let i : 2 * N * (N * P) + 2 * y ≤ 2 * N * ((g + 12) * y) =
          nlin (Z ∷ N ∷ T ∷ P ∷ y ∷ R ∷ M ∷ b ∷ g ∷ [])
          (N' ⊗ N' ⊙ # 2 ⊗ P' ⊑ T' ⊗ Z' ⊗ Z' ⊗ Z'
          ∷ Z³ ⊙ N' ⊗ N' ⊗ T' ⊑ b' ⊗ (y' ⊗ R') ⊕ # 11 ⊗ (y' ⊗ R')
          ∷ (b' ⊕ # 11) ⊗ y' ⊙ R' ⊗ Z³ ⊑ # 2 ⊗ M'
          ∷ # 2 ⊗ y' ⊙ M' ⊗ b' ⊕ # 1 ⊑ g' ⊗ N' ⊕ N'
          ∷ # 22 ⊗ y' ⊙ M' ⊑ N'
          ∷ [])
          (# 2 ⊗ N' ⊗ (N' ⊗ P') ⊕ # 2 ⊗ y') (# 2 ⊗ N' ⊗ ((g' ⊕ # 12) ⊗ y')) tt (omega (arith, recip-top)) in
          lt_of_mul-lt-mul_left (2 * N) (omega (arith, i, K.significand))
