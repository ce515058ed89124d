-- The inverse root of a squared length from the raw one of its leading bits. Assumes nothing.
use Rattle.std.proofs.Common.{◌≡◌, ℕ, ◌+◌, ◌-◌, ◌*◌, ◌/◌, ◌%◌, ◌^◌, ◌<◌, ◌≤◌, List, [], ◌∷◌, ap, ◌∙◌, subst, lt_of_lt_of_le, mul-le-mul_right, mod-eq_of_lt, mul-le-mul, mul-div_cancel, arith, pow_pos, pow-add, w64, Fits}
use mathlib.Core.Logic.{by_cases}
use native.Mathlib.Decide.{dec_lt}
use Rattle.numbers.proofs.Ring.{E, v, #, ◌⊕◌, ◌⊗◌, ◌⊙◌⊑◌, nlin×}
use Rattle.kinds.specs.declared.Op.TheVariants.{InverseRoot}
use Rattle.significand.specs.Width.{k32, t32}
use Rattle.significand.specs.Steps.{raw_of}
use Rattle.significand.specs.Distance.{Near, bound_of}
use Rattle.significand.proofs.Accepted.{raw-near}
use Rattle.leading.specs.Leading.{LeadingOf}
use Rattle.leading.proofs.Exponents.{exponent-below, parity-most, parity-power, halves-low, halves-high}
use Rattle.offset.specs.Inverse.{length_most, InverseOf, ScaleOf}

-- what an answer near 2^28 over √(y · P / 2^23) is at least and at most, P being 1 or 2
module _ (y P : ℕ) (y-least : 2 ^ 23 ≤ y) (y-most : y < 2 ^ 24) (P-least : 1 ≤ P) (P-most : P ≤ 2) (x : ℕ) where
  answer-least : 2 ^ 79 < x * x * y * P → 2 ^ 27 ≤ x
  answer-least above =
      by_cases (dec_lt x (2 ^ 27))
      (λ l.
      let s : x ≤ 2 ^ 27 = omega arith in
      let t : y * P ≤ 2 ^ 25 = omega (arith, mul-le-mul y-most P-most) in
      omega (arith, mul-le-mul (mul-le-mul s s) t))
      (λ l. omega arith)

  answer-most : x * x * y * P < 2 ^ 79 → x < 2 ^ 28
  answer-most below =
      by_cases (dec_lt x (2 ^ 28)) (λ l. l)
      (λ l.
      let s : 2 ^ 28 ≤ x = omega arith in
      let t : 2 ^ 23 ≤ y * P = omega (arith, mul-le-mul y-least P-least) in
      omega (arith, mul-le-mul (mul-le-mul s s) t))

abbrev vq : E
vq = v 0

abbrev vy : E
vy = v 1

abbrev vp : E
vp = v 2

abbrev vh : E
vh = v 3

abbrev vl : E
vl = v 4

-- with q · 2^23 from y to y + 1 times P and the square of h: low is below, being 16 less than what is, and 32 more is above
module _ (q y P h low : ℕ) where
  abbrev ρ : List ℕ
  ρ = q ∷ y ∷ P ∷ h ∷ low ∷ []

  inverse-below : low < 2 ^ 28 → 2 ^ 23 ≤ y → (low + 16) * (low + 16) * y * P < 2 ^ 79 → q * 2 ^ 23 ≤ (y + 1) * (h * h * P)
      → low * low * q ≤ 2 ^ 56 * (h * h)
  inverse-below most least below power =
      nlin× ρ (# 8388608)
      (vl ⊗ vl ⊙ vq ⊗ # 8388608 ⊑ (vy ⊕ # 1) ⊗ (vh ⊗ vh ⊗ vp)
      ∷ vh ⊗ vh ⊙ (vl ⊕ # 16) ⊗ (vl ⊕ # 16) ⊗ vy ⊗ vp ⊑ # 604462909807314587353088
      ∷ vl ⊗ vh ⊗ vh ⊗ vp ⊙ vl ⊑ # 32 ⊗ vy
      ∷ [])
      (vl ⊗ vl ⊗ vq) (# 72057594037927936 ⊗ (vh ⊗ vh)) tt (omega arith) (omega arith)

  inverse-above : 2 ^ 79 < (low + 32) * (low + 32) * y * P → y * (h * h * P) ≤ q * 2 ^ 23
      → 2 ^ 56 * (h * h) ≤ (low + 32) * (low + 32) * q
  inverse-above above power =
      nlin× ρ (# 8388608)
      ((vl ⊕ # 32) ⊗ (vl ⊕ # 32) ⊙ vy ⊗ (vh ⊗ vh ⊗ vp) ⊑ vq ⊗ # 8388608
      ∷ vh ⊗ vh ⊙ # 604462909807314587353088 ⊑ (vl ⊕ # 32) ⊗ (vl ⊕ # 32) ⊗ vy ⊗ vp
      ∷ [])
      (# 72057594037927936 ⊗ (vh ⊗ vh)) ((vl ⊕ # 32) ⊗ (vl ⊕ # 32) ⊗ vq) tt (omega arith) (omega arith)

-- g lowered by its distance and by 16
abbrev lowered : ℕ → ℕ
lowered g = g - (bound_of InverseRoot + 16)

module _ (q y j : ℕ) (leading : LeadingOf q y j) (g : ℕ) (raw : g ≡ raw_of k32 t32 InverseRoot y (j % 2)) where
  near : Near InverseRoot k32 t32 y (j % 2) (bound_of InverseRoot) g
  near = raw-near k32 t32 (omega arith) InverseRoot y (j % 2) g leading.significand (parity-most j) raw

  inverse-near : (bound_of InverseRoot + 16 ≤ g) × InverseOf q (lowered g) (27 + j / 2)
  inverse-near =
      let P : ℕ = 2 ^ (j % 2) in
      let h : ℕ = 2 ^ (j / 2) in
      let y0 = leading.significand.least in
      let y1 = leading.significand.below in
      let P0 = (parity-power j).0 in
      let P1 = (parity-power j).1 in
      let low : ℕ = lowered g in
      let least = answer-least y P y0 y1 P0 P1 (g + bound_of InverseRoot) near.over in
      let most = answer-most y P y0 y1 P0 P1 (g - bound_of InverseRoot) near.under in
      let taken : g - bound_of InverseRoot ≡ low + 16 = omega arith in
      let added : g + bound_of InverseRoot ≤ low + 32 = omega arith in
      let below : (low + 16) * (low + 16) * y * P < 2 ^ 79 = subst (λ (x : ℕ). x * x * y * P < 2 ^ 79) taken near.under in
      let above : 2 ^ 79 < (low + 32) * (low + 32) * y * P =
      lt_of_lt_of_le near.over (mul-le-mul_right P (mul-le-mul_right y (mul-le-mul added added))) in
      let power-is : 2 ^ (27 + j / 2) ≡ 2 ^ 27 * h = pow-add 2 27 (j / 2) in
      let squared : 4 * (2 ^ (27 + j / 2) * 2 ^ (27 + j / 2)) ≡ 2 ^ 56 * (h * h) = rw power-is (omega arith) in (
        omega arith,
        record {
          least = omega arith;
          most = omega arith;
          shifts = omega (arith, leading.most);
          below = rw squared (inverse-below q y P h low (omega arith) y0 below (halves-high q y j leading));
          above = rw squared (inverse-above q y P h low above (halves-low q y j leading));
        },
      )

  pub answer-above : (k : ℕ) → k ≤ bound_of InverseRoot + 16 → k ≤ g
  answer-above k h = omega (arith, inverse-near.0)

  inverse-is : InverseOf q (lowered g) (27 + j / 2)
  inverse-is = inverse-near.1

  -- brought to a fixed shift, and times a radius
  module _ (radius : ℕ) (short : radius ≤ length_most) (small : q < 2 ^ 35) where
    half-most : j / 2 ≤ 18
    half-most = omega (arith, exponent-below q y j leading 35 small)

    raised_is : radius * 2 ^ 18 % 2 ^ 64 ≡ radius * 2 ^ 18
    raised_is = mod-eq_of_lt (omega arith)

    pub scale-fits : (k : ℕ) → Fits w64 ((g - k) * (radius * 2 ^ 18 % 2 ^ 64))
    scale-fits k =
        let h : g - k ≤ 2 ^ 28 + 23 = omega (arith, inverse-is.most) in
        rw raised_is (omega (arith, mul-le-mul h short))

    pub scale-is : ScaleOf q radius (lowered g * (radius * 2 ^ 18 % 2 ^ 64) / 2 ^ (j / 2))
    scale-is =
        let k : ℕ = 2 ^ (18 - j / 2) in
        let sum : 18 ≡ 18 - j / 2 + j / 2 = omega (arith, half-most) in
        let power : 2 ^ 18 ≡ k * 2 ^ (j / 2) = ap (λ (x : ℕ). 2 ^ x) sum ∙ pow-add 2 (18 - j / 2) (j / 2) in
        let w : lowered g * (radius * (k * 2 ^ (j / 2))) ≡ lowered g * (radius * k) * 2 ^ (j / 2) = omega arith in
        record {
          low = lowered g;
          half = j / 2;
          half-most = half-most;
          inverse = inverse-is;
          is = ap (λ (x : ℕ). lowered g * x / 2 ^ (j / 2)) (raised_is ∙ ap (λ (x : ℕ). radius * x) power)
              ∙ ap (λ (x : ℕ). x / 2 ^ (j / 2)) w
              ∙ mul-div_cancel (lowered g * (radius * k)) (pow_pos (j / 2));
        }
