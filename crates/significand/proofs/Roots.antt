-- The root's series b against √(N W) and √(N (W + 1)), and the inverse root's against N √(N / W) and N √(N / (W + 1)). Each proof multiplies its
-- goal by 256 Z². A difference (b − 2)² is written b² + 4 on one side and 4 b on the other. Assumes nothing.
use mathlib.Core.Bool.{Bool, not}
use mathlib.Core.List.{List, [], ◌∷◌}
use Prim.Native.Nat.{◌≤◌, ◌<◌}
use native.Mathlib.Omega.{arith}
use Rattle.kinds.specs.declared.Op.{Op}
use Rattle.kinds.specs.declared.Op.TheVariants.{Root, InverseRoot}
use Rattle.numbers.proofs.Ring.{E, #, ◌⊕◌, ◌⊗◌, ev, H, ◌⊙◌⊑◌, nlin}
use Rattle.significand.proofs.Series.{Point, env, z, x2, q, w, s, n, rise, fall, gains, losses, Summed, by-signs, carry-less, carry-more, carry-fits, margin, scaled-least, series-least}

abbrev zz : E
zz = # 256 ⊗ z ⊗ z

-- 16 Z b, and 16 Z (b + 1)
abbrev B : E
B = # 16 ⊗ z ⊗ q

abbrev B' : E
B' = # 16 ⊗ z ⊗ q ⊕ # 16 ⊗ z

-- f B² ≤ f S², and f S² ≤ f B'²
abbrev floored : E → List H → List H
floored f hs = f ⊗ B ⊙ B ⊑ s ∷ f ⊗ s ⊙ B ⊑ s ∷ hs

abbrev raised : E → List H → List H
raised f hs = f ⊗ s ⊙ s ⊑ B' ∷ f ⊗ B' ⊙ s ⊑ B' ∷ hs

-- with G what the sum gains and L what it loses, f S² ≤ f (G − L)², and f (G − L)² ≤ f S²
abbrev square-most : Op → Bool → E → List H → List H
square-most op sign f hs =
    f ⊗ s ⊙ s ⊕ losses op sign ⊑ gains op sign
    ∷ f ⊗ gains op sign ⊙ s ⊕ losses op sign ⊑ gains op sign
    ∷ f ⊗ losses op sign ⊙ gains op sign ⊑ s ⊕ losses op sign
    ∷ hs

abbrev square-least : Op → Bool → E → List H → List H
square-least op sign f hs =
    f ⊗ s ⊙ gains op sign ⊑ s ⊕ losses op sign
    ∷ f ⊗ gains op sign ⊙ gains op sign ⊑ s ⊕ losses op sign
    ∷ f ⊗ losses op sign ⊙ s ⊕ losses op sign ⊑ gains op sign
    ∷ hs

abbrev by-root-high : Bool → List H
by-root-high sign =
    floored (# 1)
    (square-most Root sign (# 1)
    (# 32 ⊗ n ⊗ x2 ⊙ carry-less sign ⊑ carry-more sign
    ∷ zz ⊗ n ⊙ n ⊕ rise sign ⊑ w ⊕ fall sign
    ∷ # 1024 ⊗ z ⊗ z ⊙ n ⊑ q ⊕ margin
    ∷ []))

abbrev by-root-low : Bool → List H
by-root-low sign =
    raised (# 1)
    (square-least Root sign (# 1)
    (# 32 ⊗ n ⊗ x2 ⊙ carry-less (not sign) ⊑ carry-more (not sign)
    ∷ zz ⊗ n ⊙ w ⊕ fall sign ⊑ n ⊕ rise sign
    ∷ # 512 ⊗ z ⊗ z ⊙ n ⊑ q ⊕ margin
    ∷ []))

abbrev by-inverse-high : Bool → List H
by-inverse-high sign =
    floored (w ⊕ # 1)
    (s ⊗ s ⊙ w ⊕ fall sign ⊑ n ⊕ rise sign
    ∷ square-most InverseRoot sign (n ⊕ rise sign ⊕ # 1)
    (square-least InverseRoot sign (fall sign)
    (# 160 ⊗ n ⊗ n ⊗ x2 ⊙ carry-less (not sign) ⊑ carry-more (not sign)
    ∷ # 1024 ⊗ z ⊗ z ⊗ (w ⊕ # 1) ⊙ n ⊑ q ⊕ margin
    ∷ # 1024 ⊗ z ⊗ z ⊗ n ⊙ n ⊑ w ⊕ margin
    ∷ # 3072 ⊗ z ⊗ n ⊙ w ⊕ fall sign ⊑ n ⊕ rise sign
    ∷ [])))

abbrev by-inverse-low : Bool → List H
by-inverse-low sign =
    raised (# 4 ⊗ w)
    (# 4 ⊗ s ⊗ s ⊙ n ⊕ rise sign ⊑ w ⊕ fall sign
    ∷ square-least InverseRoot sign (# 4 ⊗ (n ⊕ rise sign))
    (square-most InverseRoot sign (# 4 ⊗ fall sign)
    (# 640 ⊗ n ⊗ n ⊗ x2 ⊙ carry-less sign ⊑ carry-more sign
    ∷ # 7168 ⊗ z ⊗ z ⊗ w ⊙ n ⊑ q ⊕ margin
    ∷ # 7168 ⊗ z ⊗ z ⊗ n ⊙ n ⊑ w ⊕ margin
    ∷ # 14336 ⊗ z ⊗ n ⊙ w ⊕ fall sign ⊑ n ⊕ rise sign
    ∷ [])))

positive : (P : Point) → 128 ≤ P.Z → 0 < ev (env P) zz
positive P big = nlin (env P) (z ⊙ # 1 ⊑ z ∷ # 1 ⊙ # 1 ⊑ z ∷ []) (# 1) zz tt (omega arith)

module _ (P : Point) (sign : Bool) where
  module _ (F : Summed Root sign P) where
    -- (b − 2)² ≤ N W
    pub root-high : ev (env P) (q ⊗ q ⊕ # 4) ≤ ev (env P) (n ⊗ w ⊕ # 4 ⊗ q)
    root-high =
        by-signs P F.digits sign zz by-root-high (q ⊗ q ⊕ # 4) (n ⊗ w ⊕ # 4 ⊗ q) tt tt (positive P F.digits.big)
        (omega (arith, carry-fits P F.digits sign, series-least P Root sign F))

    -- N (W + 1) ≤ (b + 2)²
    pub root-low : ev (env P) (n ⊗ (w ⊕ # 1)) ≤ ev (env P) ((q ⊕ # 2) ⊗ (q ⊕ # 2))
    root-low =
        by-signs P F.digits sign zz by-root-low (n ⊗ (w ⊕ # 1)) ((q ⊕ # 2) ⊗ (q ⊕ # 2)) tt tt (positive P F.digits.big)
        (omega (arith, carry-fits P F.digits (not sign), series-least P Root sign F))

  module _ (F : Summed InverseRoot sign P) where
    -- (b − 2)² (W + 1) ≤ N³
    pub inverse-high : ev (env P) ((q ⊗ q ⊕ # 4) ⊗ (w ⊕ # 1)) ≤ ev (env P) (n ⊗ n ⊗ n ⊕ # 4 ⊗ q ⊗ (w ⊕ # 1))
    inverse-high =
        by-signs P F.digits sign zz by-inverse-high ((q ⊗ q ⊕ # 4) ⊗ (w ⊕ # 1)) (n ⊗ n ⊗ n ⊕ # 4 ⊗ q ⊗ (w ⊕ # 1)) tt tt
        (positive P F.digits.big)
        (omega (arith, carry-fits P F.digits (not sign), series-least P InverseRoot sign F, scaled-least P InverseRoot sign F))

    -- 4 N³ ≤ (2 b + 9)² W
    pub inverse-low : ev (env P) (# 4 ⊗ n ⊗ n ⊗ n) ≤ ev (env P) ((# 2 ⊗ q ⊕ # 9) ⊗ (# 2 ⊗ q ⊕ # 9) ⊗ w)
    inverse-low =
        by-signs P F.digits sign zz by-inverse-low (# 4 ⊗ n ⊗ n ⊗ n) ((# 2 ⊗ q ⊕ # 9) ⊗ (# 2 ⊗ q ⊕ # 9) ⊗ w) tt tt
        (positive P F.digits.big)
        (omega (arith, carry-fits P F.digits sign, series-least P InverseRoot sign F, scaled-least P InverseRoot sign F))
