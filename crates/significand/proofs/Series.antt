-- What the three series have in common, over any radix Z of at least 128: their variables, their sums as polynomials, and the facts that
-- each is bounded from. Assumes nothing.
use mathlib.Core.Path.{◌≡◌}
use mathlib.Core.Bool.{Bool, true, false}
use mathlib.Core.List.{List, [], ◌∷◌}
use Prim.Native.Nat.{ℕ, ◌+◌, ◌*◌, ◌-◌, ◌≤◌, ◌<◌}
use native.Mathlib.Omega.{arith}
use Rattle.kinds.specs.declared.Op.{Op}
use Rattle.kinds.specs.declared.Op.TheVariants.{Reciprocal, Root, InverseRoot}
use Rattle.numbers.proofs.Ring.{E, v, #, ◌⊕◌, ◌⊗◌, ev, nf, H, ◌⊙◌⊑◌, lows, highs, Hold, Left, nlin, nlin×, prove}

-- the radix Z, the digits a2, a3, a4 of a, the carry h, the series b, W, which is N + a or N − a − 1, and the sum S
pub record Point : Type 0 where
  pub Z : ℕ
  pub a2 : ℕ
  pub a3 : ℕ
  pub a4 : ℕ
  pub h : ℕ
  pub b : ℕ
  pub W : ℕ
  pub S : ℕ

abbrev pub env : Point → List ℕ
env P = P.Z ∷ P.a2 ∷ P.a3 ∷ P.a4 ∷ P.h ∷ P.b ∷ P.W ∷ P.S ∷ []

-- the same as variables of a polynomial
abbrev pub z : E
z = v 0

abbrev pub x2 : E
x2 = v 1

abbrev pub x3 : E
x3 = v 2

abbrev pub x4 : E
x4 = v 3

abbrev pub y : E
y = v 4

abbrev pub q : E
q = v 5

abbrev pub w : E
w = v 6

abbrev pub s : E
s = v 7

-- N and a over them
abbrev pub n : E
n = z ⊗ z ⊗ z ⊗ z

abbrev pub x : E
x = x2 ⊗ z ⊗ z ⊕ x3 ⊗ z ⊕ x4

-- what W is more than N, and less
abbrev pub rise : Bool → E
rise true = x
rise false = # 0

abbrev pub fall : Bool → E
fall true = # 0
fall false = x ⊕ # 1

-- what each sum adds, and what it takes away
abbrev pub gains : Op → Bool → E
gains Reciprocal true = z ⊗ (n ⊕ x2 ⊗ x2) ⊕ # 2 ⊗ x2 ⊗ x3
gains Reciprocal false = z ⊗ (n ⊕ x ⊕ x2 ⊗ x2) ⊕ # 2 ⊗ x2 ⊗ x3 ⊕ y ⊗ x2
gains Root true = # 16 ⊗ z ⊗ n ⊕ # 8 ⊗ z ⊗ x ⊕ y ⊗ x2
gains Root false = # 16 ⊗ z ⊗ n
gains InverseRoot true = # 16 ⊗ z ⊗ n ⊕ # 6 ⊗ z ⊗ x2 ⊗ x2 ⊕ # 12 ⊗ x2 ⊗ x3
gains InverseRoot false = # 16 ⊗ z ⊗ n ⊕ # 8 ⊗ z ⊗ x ⊕ # 6 ⊗ z ⊗ x2 ⊗ x2 ⊕ # 12 ⊗ x2 ⊗ x3 ⊕ # 5 ⊗ y ⊗ x2

abbrev pub losses : Op → Bool → E
losses Reciprocal true = z ⊗ x ⊕ y ⊗ x2
losses Reciprocal false = # 0
losses Root true = # 2 ⊗ z ⊗ x2 ⊗ x2 ⊕ # 4 ⊗ x2 ⊗ x3
losses Root false = # 8 ⊗ z ⊗ x ⊕ # 2 ⊗ z ⊗ x2 ⊗ x2 ⊕ # 4 ⊗ x2 ⊗ x3 ⊕ y ⊗ x2
losses InverseRoot true = # 8 ⊗ z ⊗ x ⊕ # 5 ⊗ y ⊗ x2
losses InverseRoot false = # 0

-- what the sum is divided by
abbrev pub divisor : Op → E
divisor Reciprocal = z
divisor Root = # 16 ⊗ z
divisor InverseRoot = # 16 ⊗ z

-- the digits are below Z, and h is a2² / Z, floored
pub record Digits (P : Point) : Type 0 where
  pub big : 128 ≤ P.Z
  pub below2 : P.a2 < P.Z
  pub below3 : P.a3 < P.Z
  pub below4 : P.a4 < P.Z
  pub carry-low : P.Z * P.h ≤ P.a2 * P.a2
  pub carry-high : P.a2 * P.a2 < P.Z * P.h + P.Z

-- S is the sum, b is S over its divisor, floored, and W is N + a or N − a − 1
pub record Summed (op : Op) (sign : Bool) (P : Point) : Type 0 where
  pub digits : Digits P
  pub sum : ev (env P) (s ⊕ losses op sign) ≡ ev (env P) (gains op sign)
  pub floor-low : ev (env P) (divisor op ⊗ q) ≤ P.S
  pub floor-high : P.S < ev (env P) (divisor op ⊗ q ⊕ divisor op)
  pub at : ev (env P) (w ⊕ fall sign) ≡ ev (env P) (n ⊕ rise sign)

-- a2² is at least Z h and at most Z h + Z: the two sides of the first where the Bool is true, and of the second where it is false
abbrev pub carry-less : Bool → E
carry-less true = z ⊗ y
carry-less false = x2 ⊗ x2

abbrev pub carry-more : Bool → E
carry-more true = x2 ⊗ x2
carry-more false = z ⊗ y ⊕ z

-- each of a2, a3, a4 and h is at most Z, and Z is 128 or more
abbrev pub tops : List E
tops = z ∷ z ∷ z ∷ z ∷ z ∷ q ∷ w ∷ s ∷ []

abbrev pub from-128 : List E
from-128 = # 128 ⊕ z ∷ x2 ∷ x3 ∷ x4 ∷ y ∷ q ∷ w ∷ s ∷ []

-- the test that `by-tops` leaves to be computed
abbrev pub Passes : E → List H → E → E → Type 0
Passes m hs l r = Left tops from-128 (nf (m ⊗ l ⊕ highs hs)) (nf (m ⊗ r ⊕ lows hs))

module _ (P : Point) (D : Digits P) where
  carry-small : P.h ≤ P.a2
  carry-small = nlin× (env P) z (# 1 ⊙ z ⊗ y ⊑ x2 ⊗ x2 ∷ x2 ⊙ x2 ⊑ z ∷ []) y x2 tt (omega arith) (omega arith)

  -- l ≤ r, from m · l ≤ m · r, from the hypotheses: what they leave over is compared where each of a2, a3, a4, h is Z
  pub by-tops : (m : E) (hs : List H) (l r : E) → Passes m hs l r → 0 < ev (env P) m → Hold (env P) hs → ev (env P) l ≤ ev (env P) r
  by-tops m hs l r t p held =
      prove (env P) ((P.Z - 128) ∷ P.a2 ∷ P.a3 ∷ P.a4 ∷ P.h ∷ P.b ∷ P.W ∷ P.S ∷ []) tops from-128 m hs l r t (omega (arith, carry-small))
      (omega arith) p held

  -- the same for either sign
  pub by-signs : (sign : Bool) (m : E) (hs : Bool → List H) (l r : E) → Passes m (hs true) l r → Passes m (hs false) l r → 0 < ev (env P) m
      → Hold (env P) (hs sign) → ev (env P) l ≤ ev (env P) r
  by-signs true m hs l r t f p held = by-tops m (hs true) l r t p held
  by-signs false m hs l r t f p held = by-tops m (hs false) l r f p held

  pub carry-fits : (sign : Bool) → ev (env P) (carry-less sign) ≤ ev (env P) (carry-more sign)
  carry-fits true = omega arith
  carry-fits false = omega arith

-- 2 Z³: b and W are no further from N
abbrev pub margin : E
margin = # 2 ⊗ z ⊗ z ⊗ z

abbrev by_most : Op → Bool → List H
by_most op sign = # 1 ⊙ divisor op ⊗ q ⊑ s ∷ # 1 ⊙ s ⊕ losses op sign ⊑ gains op sign ∷ []

abbrev by-least : Op → Bool → List H
by-least op sign = # 1 ⊙ s ⊑ divisor op ⊗ q ⊕ divisor op ∷ # 1 ⊙ gains op sign ⊑ s ⊕ losses op sign ∷ []

most-passes : (op : Op) (sign : Bool) → Passes (divisor op) (by_most op sign) q (n ⊕ margin)
most-passes Reciprocal true = tt
most-passes Reciprocal false = tt
most-passes Root true = tt
most-passes Root false = tt
most-passes InverseRoot true = tt
most-passes InverseRoot false = tt

least-passes : (op : Op) (sign : Bool) → Passes (divisor op) (by-least op sign) n (q ⊕ margin)
least-passes Reciprocal true = tt
least-passes Reciprocal false = tt
least-passes Root true = tt
least-passes Root false = tt
least-passes InverseRoot true = tt
least-passes InverseRoot false = tt

divisor-positive : (P : Point) (op : Op) → 128 ≤ P.Z → 0 < ev (env P) (divisor op)
divisor-positive P Reciprocal big = omega arith
divisor-positive P Root big = omega arith
divisor-positive P InverseRoot big = omega arith

module _ (P : Point) (op : Op) (sign : Bool) (F : Summed op sign P) where
  pub series-most : ev (env P) q ≤ ev (env P) (n ⊕ margin)
  series-most =
      by-tops P F.digits (divisor op) (by_most op sign) q (n ⊕ margin) (most-passes op sign) (divisor-positive P op F.digits.big) (omega arith)

  pub series-least : ev (env P) n ≤ ev (env P) (q ⊕ margin)
  series-least =
      by-tops P F.digits (divisor op) (by-least op sign) n (q ⊕ margin) (least-passes op sign) (divisor-positive P op F.digits.big) (omega arith)

  pub scaled-least : ev (env P) n ≤ ev (env P) (w ⊕ margin)
  scaled-least =
      by-signs P F.digits sign (# 1) (λ (sg : Bool). # 1 ⊙ n ⊕ rise sg ⊑ w ⊕ fall sg ∷ []) n (w ⊕ margin) tt tt (omega arith) (omega arith)

-- 2 Z³ is at most a 64th of N, and N is 128 or more
pub margin-small : (Z : ℕ) → 128 ≤ Z → 64 * (2 * Z * Z * Z) ≤ Z * Z * Z * Z
margin-small Z big = nlin (Z ∷ []) (z ⊗ z ⊗ z ⊙ # 128 ⊑ z ∷ []) (# 64 ⊗ (# 2 ⊗ z ⊗ z ⊗ z)) n tt (omega arith)

pub whole-big : (Z : ℕ) → 128 ≤ Z → 128 ≤ Z * Z * Z * Z
whole-big Z big = nlin (Z ∷ []) (z ⊗ z ⊗ z ⊕ z ⊗ z ⊕ z ⊕ # 1 ⊙ # 128 ⊑ z ∷ []) (# 128) n tt (omega arith)
