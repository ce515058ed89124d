-- The terms of a sum, and the steps of every sum of them, in 64-bit signed numbers, over k: nothing on the way overflows.
-- Assumes nothing.
use mathlib.Core.Path.{◌≡◌, refl, ap, ◌∙◌}
use mathlib.Core.Bool.{Bool, true, false}
use mathlib.Core.List.{List, [], ◌∷◌}
use Prim.Native.Nat.{ℕ, ◌+◌, ◌*◌, ◌/◌, ◌%◌, ◌^◌, ◌≤◌, ◌<◌}
use native.Mathlib.Nat.{div-le_of_le-mul, div-add-mod', mul-le-mul, mul-le-mul_right, mul_comm, le_of_lt}
use native.Mathlib.Omega.{arith}
use lib.Dec.{T}
use lib.IntN.{ℤ, pos, nat_abs}
use lib.Pow.{pow_mono, shr-shr}
use mir.Syntax.{w64}
use mir.Val.{SFits, to_z, of_z}
use mir.ValLaws.{to_z_pos}
use Rattle.kinds.specs.declared.Op.TheVariants.{Reciprocal}
use Rattle.numbers.proofs.Signed.{X, given, lit, worked, fine, Within, fits, held}
use Rattle.numbers.proofs.Exponents.{power-of}
use Rattle.significand.specs.Steps.{unit, digit2, digit3, carry_of}
use Rattle.significand.proofs.Series.{Digits}
use Rattle.significand.proofs.Sums.{point_of, digits-below}
use Rattle.series.specs.declared.Terms.{Terms}
use Rattle.series.specs.Parts.{TermsOf}
use Rattle.series.proofs.Bounds.{limits-product}

-- s has the magnitude 1, and comes back from its 64 bits
unit-abs : (positive : Bool) → nat_abs (unit positive) ≡ 1
unit-abs true = refl
unit-abs false = refl

unit-back : (positive : Bool) (s : ℤ) → s ≡ unit positive → to_z w64 (of_z w64 s) ≡ unit positive
unit-back positive s e = held (s ∷ []) (1 ∷ []) (omega (arith, ap nat_abs e, unit-abs positive), tt) (given 0) tt ∙ e

-- both terms of the second order by one product
pub crossed : (k a : ℕ) → digit2 k a * (a / 2 ^ k + a / 2 ^ k % 2 ^ k) ≡ 2 ^ k * (digit2 k a * digit2 k a) + 2 * (digit2 k a * digit3 k a)
crossed k a =
    let top : a / 2 ^ k / 2 ^ k ≡ digit2 k a = shr-shr a k k ∙ ap (λ (e : ℕ). a / 2 ^ e) (omega arith) in
    let upper : a / 2 ^ k ≡ digit2 k a * 2 ^ k + digit3 k a =
    omega (arith, div-add-mod' (a / 2 ^ k) (2 ^ k), ap (λ (m : ℕ). m * 2 ^ k) top) in
    omega (arith, ap (λ (m : ℕ). digit2 k a * m) upper)

-- what the code has of a reduction
pub terms-are : (k : ℕ) → k ≤ 15 → (positive : Bool) (a square cross cube : ℕ) (s : ℤ) → a < 2 ^ (3 * k)
    → square ≡ digit2 k a * digit2 k a
    → s ≡ unit positive
    → cross ≡ digit2 k a * (a / 2 ^ k + a / 2 ^ k % 2 ^ k) → cross < 2 ^ 46
    → cube ≡ digit2 k a * (square / 2 ^ k) → cube < 2 ^ 46
    → TermsOf k positive a (record { sign = to_z w64 (of_z w64 s); linear = to_z w64 a; cross = to_z w64 cross; cube = to_z w64 cube })
terms-are k h positive a square cross cube s small es e ec hc eu hu =
    let three : 2 ^ (3 * k) ≤ 35184372088832 = pow_mono {i = 3 * k} {j = 45} (omega arith) in
    record {
      sign = unit-back positive s e;
      linear = to_z_pos w64 a (omega arith);
      cross = to_z_pos w64 cross (omega arith) ∙ ap pos (ec ∙ crossed k a);
      cube = to_z_pos w64 cube (omega arith) ∙ ap pos (eu ∙ ap (λ (n : ℕ). digit2 k a * (n / 2 ^ k)) es ∙ mul_comm (digit2 k a) (carry_of k (digit2 k a)));
    }

-- the numbers of a sum, s, a, 2^k·a2² + 2·a2·a3 and h·a2, and how large they are
abbrev pub sign : X
sign = given 0

abbrev pub linear : X
linear = given 1

abbrev pub cross : X
cross = given 2

abbrev pub cube : X
cube = given 3

abbrev pub # : ℕ → X
# n = lit (pos n)

abbrev pub tops : ℕ → List ℕ
tops k = 1 ∷ 2 ^ (3 * k) ∷ 2 ^ (3 * k + 1) ∷ 2 ^ (2 * k) ∷ []

abbrev pub numbers : Terms → List ℤ
numbers t = t.sign ∷ t.linear ∷ t.cross ∷ t.cube ∷ []

module _ (k : ℕ) (big : 7 ≤ k) (positive : Bool) (a : ℕ) (t : Terms) (below : a < 2 ^ (3 * k)) (h : TermsOf k positive a t) where
  abbrev a2 : ℕ
  a2 = digit2 k a

  digits : Digits (point_of k Reciprocal positive a)
  digits = digits-below k a big below Reciprocal positive

  carry-most : carry_of k a2 ≤ a2
  carry-most = div-le_of_le-mul (2 ^ k) (mul-le-mul_right a2 (le_of_lt digits.below2))

  product : (b : ℕ) → b < 2 ^ k → b * a2 < 2 ^ (2 * k)
  product b i = omega (arith, limits-product (2 ^ k) (2 ^ k) b a2 i digits.below2, power-of (2 * k) (k ∷ k ∷ []) (omega arith))

  cross-small : 2 ^ k * (a2 * a2) + 2 * (a2 * digit3 k a) ≤ 2 ^ (3 * k + 1)
  cross-small =
      let radix : 2 ≤ 2 ^ k = pow_mono {i = 1} {j = k} (omega arith) in
      let one : 2 ^ k * (a2 * a2) ≤ 2 ^ k * 2 ^ (2 * k) = mul-le-mul (omega arith) (le_of_lt (product a2 digits.below2)) in
      let two : 2 * (digit3 k a * a2) ≤ 2 ^ k * 2 ^ (2 * k) = mul-le-mul radix (le_of_lt (product (digit3 k a) digits.below3)) in
      omega (arith, one, two, power-of (3 * k + 1) (1 ∷ k ∷ 2 * k ∷ []) (omega arith))

  pub within : Within (numbers t) (tops k)
  within = (
    omega (arith, ap nat_abs h.sign, unit-abs positive),
    (
      omega (arith, below, ap nat_abs h.linear),
      (
        omega (arith, ap nat_abs h.cross, cross-small),
        (omega (arith, ap nat_abs h.cube, product (carry_of k a2) (omega (arith, carry-most, digits.below2))), tt),
      ),
    ),
  )

-- as the code's proofs ask: each step of a sum fits
pub step_fits : (k : ℕ) (x : X) → 7 ≤ k → T (fine (tops k) x) → (positive : Bool) (a : ℕ) (t : Terms) → a < 2 ^ (3 * k) → TermsOf k positive a t
    → SFits w64 (worked (numbers t) x)
step_fits k x big f positive a t below h = fits (numbers t) (tops k) (within k big positive a t below h) x f
