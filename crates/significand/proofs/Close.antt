-- The series b against the exact series of U, which is T times a number from W to W + 1: 1 / U, √U and 1 / √U, scaled. Assumes nothing.
use mathlib.Core.Path.{◌≡◌, ap}
use mathlib.Core.Bool.{Bool}
use mathlib.Core.List.{[], ◌∷◌}
use Prim.Native.Nat.{ℕ, ◌+◌, ◌*◌, ◌-◌, ◌≤◌}
use native.Mathlib.Omega.{arith}
use Rattle.kinds.specs.declared.Op.{Op}
use Rattle.kinds.specs.declared.Op.TheVariants.{Reciprocal, Root, InverseRoot}
use Rattle.numbers.proofs.Ring.{E, v, #, ◌⊕◌, ◌⊗◌, ◌⊙◌⊑◌, nlin}
use Rattle.significand.proofs.Series.{Point, Summed, series-most, series-least, margin-small, whole-big}
use Rattle.significand.proofs.Reciprocal.{recip-high, recip-low}
use Rattle.significand.proofs.Roots.{root-high, root-low, inverse-high, inverse-low}

-- b is not too high: N² T / U + 4.5, √(N U / T) + 2, √(N³ T / U) + 2
abbrev pub High : Op → ℕ → ℕ → ℕ → ℕ → Type 0
High Reciprocal N T U b = 2 * b * U ≤ 2 * N * N * T + 9 * U
High Root N T U b = T * ((b - 2) * (b - 2)) ≤ N * U
High InverseRoot N T U b = U * ((b - 2) * (b - 2)) ≤ N * N * N * T

-- and not too low: the same less 11, 2 and 4.5
abbrev pub Low : Op → ℕ → ℕ → ℕ → ℕ → Type 0
Low Reciprocal N T U b = N * N * T ≤ b * U + 11 * U
Low Root N T U b = N * U ≤ T * ((b + 2) * (b + 2))
Low InverseRoot N T U b = 4 * (N * N * N * T) ≤ U * ((2 * b + 9) * (2 * b + 9))

-- b is close to N, and to the exact series of U
pub record Close (op : Op) (N T U b : ℕ) : Type 0 where
  pub most : 64 * b ≤ 65 * N
  pub least : 63 * N ≤ 64 * b
  pub high : High op N T U b
  pub low : Low op N T U b

square-less : (b : ℕ) → 2 ≤ b → (b - 2) * (b - 2) + 4 * b ≡ b * b + 4
square-less b h =
    let e : b - 2 + 2 ≡ b = omega arith in
    omega (arith, ap (λ (x : ℕ). x * x) e)

-- the variables T, U, W, N and b
abbrev T' : E
T' = v 0

abbrev U' : E
U' = v 1

abbrev W' : E
W' = v 2

abbrev N' : E
N' = v 3

abbrev b' : E
b' = v 4

-- what holds at W and at W + 1 holds at U / T
module _ (T U W N b : ℕ) (from : T * W ≤ U) (upto : U ≤ T * (W + 1)) where
  recip-up : 2 * (W + 1) * b ≤ 2 * N * N + 9 * W → 2 * b * U ≤ 2 * N * N * T + 9 * U
  recip-up h =
      nlin (T ∷ U ∷ W ∷ N ∷ b ∷ [])
      (# 2 ⊗ b' ⊙ U' ⊑ T' ⊗ (W' ⊕ # 1) ∷ T' ⊙ # 2 ⊗ (W' ⊕ # 1) ⊗ b' ⊑ # 2 ⊗ N' ⊗ N' ⊕ # 9 ⊗ W' ∷ # 9 ⊙ T' ⊗ W' ⊑ U' ∷ []) (# 2 ⊗ b' ⊗ U')
      (# 2 ⊗ N' ⊗ N' ⊗ T' ⊕ # 9 ⊗ U') tt (omega arith)

  recip-down : N * N ≤ W * b + 11 * W → N * N * T ≤ b * U + 11 * U
  recip-down h =
      nlin (T ∷ U ∷ W ∷ N ∷ b ∷ []) (T' ⊙ N' ⊗ N' ⊑ W' ⊗ b' ⊕ # 11 ⊗ W' ∷ b' ⊕ # 11 ⊙ T' ⊗ W' ⊑ U' ∷ []) (N' ⊗ N' ⊗ T')
      (b' ⊗ U' ⊕ # 11 ⊗ U') tt (omega arith)

  -- here b stands for b − 2, b + 2 or 2 b + 9
  root-up : b * b ≤ N * W → T * (b * b) ≤ N * U
  root-up h = nlin (T ∷ U ∷ W ∷ N ∷ b ∷ []) (T' ⊙ b' ⊗ b' ⊑ N' ⊗ W' ∷ N' ⊙ T' ⊗ W' ⊑ U' ∷ []) (T' ⊗ (b' ⊗ b')) (N' ⊗ U') tt (omega arith)

  root-down : N * (W + 1) ≤ b * b → N * U ≤ T * (b * b)
  root-down h =
      nlin (T ∷ U ∷ W ∷ N ∷ b ∷ []) (T' ⊙ N' ⊗ (W' ⊕ # 1) ⊑ b' ⊗ b' ∷ N' ⊙ U' ⊑ T' ⊗ (W' ⊕ # 1) ∷ []) (N' ⊗ U') (T' ⊗ (b' ⊗ b')) tt (omega arith)

  inverse-up : b * b * (W + 1) ≤ N * N * N → U * (b * b) ≤ N * N * N * T
  inverse-up h =
      nlin (T ∷ U ∷ W ∷ N ∷ b ∷ []) (T' ⊙ b' ⊗ b' ⊗ (W' ⊕ # 1) ⊑ N' ⊗ N' ⊗ N' ∷ b' ⊗ b' ⊙ U' ⊑ T' ⊗ (W' ⊕ # 1) ∷ []) (U' ⊗ (b' ⊗ b'))
      (N' ⊗ N' ⊗ N' ⊗ T') tt (omega arith)

  inverse-down : 4 * N * N * N ≤ b * b * W → 4 * (N * N * N * T) ≤ U * (b * b)
  inverse-down h =
      nlin (T ∷ U ∷ W ∷ N ∷ b ∷ []) (T' ⊙ # 4 ⊗ N' ⊗ N' ⊗ N' ⊑ b' ⊗ b' ⊗ W' ∷ b' ⊗ b' ⊙ T' ⊗ W' ⊑ U' ∷ []) (# 4 ⊗ (N' ⊗ N' ⊗ N' ⊗ T'))
      (U' ⊗ (b' ⊗ b')) tt (omega arith)

module _ (P : Point) (op : Op) (sign : Bool) (F : Summed op sign P) where
  abbrev N : ℕ
  N = P.Z * P.Z * P.Z * P.Z

  close-most : 64 * P.b ≤ 65 * N
  close-most = omega (arith, series-most P op sign F, margin-small P.Z F.digits.big)

  close-least : 63 * N ≤ 64 * P.b
  close-least = omega (arith, series-least P op sign F, margin-small P.Z F.digits.big)

  -- so that b − 2 is b less 2
  square-is : (P.b - 2) * (P.b - 2) + 4 * P.b ≡ P.b * P.b + 4
  square-is = square-less P.b (omega (arith, close-least, whole-big P.Z F.digits.big))

pub series-close : (op : Op) (sign : Bool) (P : Point) (T U : ℕ) → T * P.W ≤ U → U ≤ T * (P.W + 1) → Summed op sign P
    → Close op (P.Z * P.Z * P.Z * P.Z) T U P.b
series-close Reciprocal sign P T U from upto F =
    let N : ℕ = P.Z * P.Z * P.Z * P.Z in
    record {
      most = close-most P Reciprocal sign F;
      least = close-least P Reciprocal sign F;
      high = recip-up T U P.W N P.b from upto (recip-high P sign F);
      low = recip-down T U P.W N P.b from upto (recip-low P sign F);
    }
series-close Root sign P T U from upto F =
    let N : ℕ = P.Z * P.Z * P.Z * P.Z in
    record {
      most = close-most P Root sign F;
      least = close-least P Root sign F;
      high = root-up T U P.W N (P.b - 2) from upto (omega (arith, root-high P sign F, square-is P Root sign F));
      low = root-down T U P.W N (P.b + 2) from upto (root-low P sign F);
    }
series-close InverseRoot sign P T U from upto F =
    let N : ℕ = P.Z * P.Z * P.Z * P.Z in
    record {
      most = close-most P InverseRoot sign F;
      least = close-least P InverseRoot sign F;
      high = inverse-up T U P.W N (P.b - 2) from upto
          (omega (arith, inverse-high P sign F, ap (λ (m : ℕ). m * (P.W + 1)) (square-is P InverseRoot sign F)));
      low = inverse-down T U P.W N (2 * P.b + 9) from upto (inverse-low P sign F);
    }
