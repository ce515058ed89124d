-- The reciprocal's series b against N² / W and N² / (W + 1). Assumes nothing.
use mathlib.Core.Path.{◌≡◌, ap}
use mathlib.Core.Bool.{Bool, not}
use mathlib.Core.List.{List, [], ◌∷◌}
use Prim.Native.Nat.{ℕ, ◌+◌, ◌*◌, ◌-◌, ◌≤◌, ◌<◌}
use native.Mathlib.Omega.{arith}
use Rattle.kinds.specs.declared.Op.TheVariants.{Reciprocal}
use Rattle.numbers.proofs.Ring.{#, ◌⊕◌, ◌⊗◌, ev, H, ◌⊙◌⊑◌}
use Rattle.significand.proofs.Series.{Point, env, z, x2, x3, q, w, s, n, rise, fall, gains, losses, Summed, by-signs, carry-less, carry-more, carry-fits, margin, scaled-least}

-- a3 is at most Z, so that 3 Z a3 is at most 2 Z² + a3²: what the cube leaves out is partly made good by what the square leaves out
digit-curve : (Z a : ℕ) → a < Z → 3 * Z * a ≤ 2 * Z * Z + a * a
digit-curve Z a h = let d : ℕ = Z - a in let e : Z ≡ a + d = omega arith in omega (arith, ap (λ (m : ℕ). m * m) e, ap (λ (m : ℕ). m * a) e)

-- the hypotheses of the two bounds, each with the number of times it is taken
abbrev by_high : Bool → List H
by_high sign =
    # 2 ⊗ (w ⊕ # 1) ⊙ z ⊗ q ⊑ s
    ∷ # 2 ⊗ (w ⊕ # 1) ⊙ s ⊕ losses Reciprocal sign ⊑ gains Reciprocal sign
    ∷ # 2 ⊗ gains Reciprocal sign ⊙ w ⊕ fall sign ⊑ n ⊕ rise sign
    ∷ # 2 ⊗ losses Reciprocal sign ⊙ n ⊕ rise sign ⊑ w ⊕ fall sign
    ∷ # 2 ⊗ z ⊗ z ⊗ z ⊗ x2 ⊙ carry-less (not sign) ⊑ carry-more (not sign)
    ∷ # 9 ⊗ z ⊙ n ⊑ w ⊕ margin
    ∷ # 6 ⊗ z ⊗ z ⊗ x3 ⊗ x2 ⊙ x2 ⊑ z
    ∷ # 6 ⊗ z ⊗ z ⊗ z ⊗ x3 ⊙ x2 ⊑ z
    ∷ # 2 ⊗ z ⊗ z ⊗ z ⊙ # 3 ⊗ z ⊗ x3 ⊑ # 2 ⊗ z ⊗ z ⊕ x3 ⊗ x3
    ∷ []

abbrev by-low : Bool → List H
by-low sign =
    w ⊙ s ⊑ z ⊗ q ⊕ z
    ∷ w ⊙ gains Reciprocal sign ⊑ s ⊕ losses Reciprocal sign
    ∷ gains Reciprocal sign ⊙ n ⊕ rise sign ⊑ w ⊕ fall sign
    ∷ losses Reciprocal sign ⊙ w ⊕ fall sign ⊑ n ⊕ rise sign
    ∷ z ⊗ z ⊗ z ⊗ x2 ⊙ carry-less sign ⊑ carry-more sign
    ∷ # 10 ⊗ z ⊙ n ⊑ w ⊕ margin
    ∷ []

module _ (P : Point) (sign : Bool) (F : Summed Reciprocal sign P) where
  -- 2 (W + 1) b ≤ 2 N² + 9 W
  pub recip-high : ev (env P) (# 2 ⊗ (w ⊕ # 1) ⊗ q) ≤ ev (env P) (# 2 ⊗ n ⊗ n ⊕ # 9 ⊗ w)
  recip-high =
      by-signs P F.digits sign z by_high (# 2 ⊗ (w ⊕ # 1) ⊗ q) (# 2 ⊗ n ⊗ n ⊕ # 9 ⊗ w) tt tt (omega arith)
      (omega (arith, carry-fits P F.digits (not sign), scaled-least P Reciprocal sign F, digit-curve P.Z P.a3 F.digits.below3))

  -- N² ≤ W b + 11 W
  pub recip-low : ev (env P) (n ⊗ n) ≤ ev (env P) (w ⊗ q ⊕ # 11 ⊗ w)
  recip-low =
      by-signs P F.digits sign z by-low (n ⊗ n) (w ⊗ q ⊕ # 11 ⊗ w) tt tt (omega arith)
      (omega (arith, carry-fits P F.digits sign, scaled-least P Reciprocal sign F))
