-- The start for 2n over √q: n·low over 2^shift, floored, is its floor or one below it. Assumes nothing.
use Rattle.std.proofs.Common.{ℕ, ◌+◌, ◌*◌, ◌/◌, ◌^◌, ◌<◌, ◌≤◌, List, [], ◌∷◌, mul-pos, arith, pow_pos}
use mathlib.Core.Logic.{by_cases}
use native.Mathlib.Nat.{mul-div-le, lt-mul-div-succ}
use native.Mathlib.Decide.{dec_le, dec_lt}
use Rattle.numbers.proofs.Ring.{E, v, #, ◌⊕◌, ◌⊗◌, ◌⊙◌⊑◌, nlin, nlin×}
use Rattle.offset.specs.Inverse.{length_most, InverseOf, QuotientRange}

abbrev vn : E
vn = v 0

abbrev vq : E
vq = v 1

abbrev vl : E
vl = v 2

abbrev vw : E
vw = v 3

abbrev vt : E
vt = v 4

-- n times the larger neighbour low + 32, and t + 2 times w
abbrev reach : E
reach = vn ⊗ (vl ⊕ # 32)

abbrev past : E
past = (vt ⊕ # 2) ⊗ vw

-- w is 2^shift, and t the floor of n·low over w
module _ (n q low w t : ℕ) where
  abbrev ρ : List ℕ
  ρ = n ∷ q ∷ low ∷ w ∷ t ∷ []

  -- 32 units of low make less than one of t
  fine : 2 ^ 26 ≤ low → low * low * q ≤ 4 * (w * w) → n * n ≤ length_most * length_most * q → 32 * n ≤ w
  fine least below small =
      by_cases (dec_lt w (32 * n))
      (λ h.
      let no : 1 ≤ 0 =
      nlin ρ
      (# 4 ⊗ (vw ⊕ # 32 ⊗ vn) ⊙ vw ⊕ # 1 ⊑ # 32 ⊗ vn
      ∷ # 1 ⊙ vw ⊕ # 1 ⊑ # 32 ⊗ vn
      ∷ # 4096 ⊙ vn ⊗ vn ⊑ # (length_most * length_most) ⊗ vq
      ∷ (vl ⊕ # 67108864) ⊗ vq ⊙ # 67108864 ⊑ vl
      ∷ # 1 ⊙ vl ⊗ vl ⊗ vq ⊑ # 4 ⊗ (vw ⊗ vw)
      ∷ [])
      (# 1) (# 0) tt (omega arith) in
      omega arith)
      (λ h. omega arith)

  -- t is not above 2n over √q
  low-enough : 0 < w → w * t ≤ n * low → low * low * q ≤ 4 * (w * w) → t * t * q ≤ 4 * (n * n)
  low-enough pos at below =
      nlin× ρ (vw ⊗ vw)
      ((vt ⊗ vw ⊕ vn ⊗ vl) ⊗ vq ⊙ vw ⊗ vt ⊑ vn ⊗ vl
      ∷ vn ⊗ vn ⊙ vl ⊗ vl ⊗ vq ⊑ # 4 ⊗ (vw ⊗ vw)
      ∷ [])
      (vt ⊗ vt ⊗ vq) (# 4 ⊗ (vn ⊗ vn)) tt (mul-pos pos pos) (omega arith)

  -- t + 2 is above it
  high-enough : 0 < q → n * low < w * (t + 1) → 32 * n ≤ w → 4 * (w * w) ≤ (low + 32) * (low + 32) * q
      → 4 * (n * n) < (t + 2) * (t + 2) * q
  high-enough pos at unit above =
      by_cases (dec_le ((t + 2) * (t + 2) * q) (4 * (n * n)))
      (λ h.
      let no : 1 ≤ 0 =
      nlin ρ
      (vw ⊗ vw ⊙ (vt ⊕ # 2) ⊗ (vt ⊕ # 2) ⊗ vq ⊑ # 4 ⊗ (vn ⊗ vn)
      ∷ vn ⊗ vn ⊙ # 4 ⊗ (vw ⊗ vw) ⊑ (vl ⊕ # 32) ⊗ (vl ⊕ # 32) ⊗ vq
      ∷ vq ⊗ (reach ⊕ past) ⊙ reach ⊕ # 1 ⊑ past
      ∷ past ⊙ # 1 ⊑ vq
      ∷ # 1 ⊙ reach ⊕ # 1 ⊑ past
      ∷ [])
      (# 1) (# 0) tt (omega arith) in
      omega arith)
      (λ h. omega arith)

module _ (n q : ℕ) (ranges : QuotientRange n q) where
  -- where t is not above 2n over √q
  module _ (t : ℕ) (below : t * t * q ≤ 4 * (n * n)) where
    -- it is at most twice the largest length
    pub start-most : t ≤ 2 * length_most
    start-most =
        by_cases (dec_lt (2 * length_most) t)
        (λ l.
        let no : 1 ≤ 0 =
        nlin (n ∷ q ∷ t ∷ [])
        ((v 2 ⊕ # (2 * length_most)) ⊗ v 1 ⊙ # (2 * length_most + 1) ⊑ v 2
        ∷ # 1 ⊙ v 2 ⊗ v 2 ⊗ v 1 ⊑ # 4 ⊗ (v 0 ⊗ v 0)
        ∷ # 4 ⊙ v 0 ⊗ v 0 ⊑ # (length_most * length_most) ⊗ v 1
        ∷ # 1 ⊙ # 1 ⊑ v 1
        ∷ [])
        (# 1) (# 0) tt (omega arith) in
        omega arith)
        (λ l. omega arith)

  module _ (low shift : ℕ) (inverse : InverseOf q low shift) where
    -- the start is not above 2n over √q
    pub start-below : n * low / 2 ^ shift * (n * low / 2 ^ shift) * q ≤ 4 * (n * n)
    start-below =
        low-enough n q low (2 ^ shift) (n * low / 2 ^ shift) (pow_pos shift) (mul-div-le (n * low) (2 ^ shift)) inverse.below

    -- and two more is above it
    pub start-above : 4 * (n * n) < (n * low / 2 ^ shift + 2) * (n * low / 2 ^ shift + 2) * q
    start-above =
        high-enough n q low (2 ^ shift) (n * low / 2 ^ shift) ranges.least (lt-mul-div-succ (n * low) (pow_pos shift))
        (fine n q low (2 ^ shift) 0 inverse.least inverse.below ranges.ratio)
        inverse.above
