-- The general law of the answer's distance: for any M within one unit of the exact M, and any b close to the exact series, M b / 2^(4k), floored,
-- is less than 12 (reciprocal) or 7 (both roots) away from 2^(4k) times the exact value. Assumes nothing.
use mathlib.Core.Path.{◌≡◌, ap}
use mathlib.Core.List.{[], ◌∷◌}
use Prim.Native.Nat.{ℕ, ◌+◌, ◌*◌, ◌-◌, ◌/◌, ◌^◌, ◌≤◌, ◌<◌}
use native.Mathlib.Nat.{div-mul-le_self, lt-div-mul-add, mul-sub}
use native.Mathlib.Omega.{arith}
use lib.Pow.{pow_pos}
use Rattle.kinds.specs.declared.Op.{Op}
use Rattle.kinds.specs.declared.Op.TheVariants.{Reciprocal, Root, InverseRoot}
use Rattle.numbers.specs.Nearest.{WithinOne}
use Rattle.numbers.proofs.Exponents.{power-of}
use Rattle.significand.specs.Width.{Significand}
use Rattle.significand.specs.Distance.{Under, Over, bound_of, above_of, Between}
use Rattle.significand.proofs.Close.{Close}
use Rattle.significand.proofs.Units.{Setting, Floored, root-multiplier, inverse-multiplier, recip-multiplier, root-under, root_over, inverse-under, inverse-over, recip-under, recip-over}
use Rattle.significand.proofs.Scale.{setting, whole_is, whole-least, parity-most, quotient-scale, square-scale, root-power, inverse-power, whole-square, over-least}

-- M is the exact M (reciprocal), or less than one unit away from it: √(2^(9k + 1 + p) / r), √(r 2^(8k) / 2^(k + 1 + p))
abbrev pub Multiplies : Op → ℕ → ℕ → ℕ → ℕ → Type 0
Multiplies Reciprocal k r p M = M ≡ r * 2 ^ (3 * k - 1)
Multiplies Root k r p M = WithinOne r (2 ^ (9 * k + 1 + p)) M
Multiplies InverseRoot k r p M = WithinOne (2 ^ (k + 1 + p)) (r * 2 ^ (8 * k)) M

module _ (k r p M : ℕ) (h : 7 ≤ k) where
  abbrev Z : ℕ
  Z = 2 ^ k

  abbrev N : ℕ
  N = 2 ^ (4 * k)

  -- the rules for M over Z, N and 2^p
  root-low : Multiplies Root k r p M → r * ((M - 1) * (M - 1)) < 2 * Z * N * N * 2 ^ p
  root-low near = omega (arith, near.low, root-power k p)

  root-high : Multiplies Root k r p M → 2 * Z * N * N * 2 ^ p < r * ((M + 1) * (M + 1))
  root-high near = omega (arith, near.high, root-power k p)

  inverse-low : Multiplies InverseRoot k r p M → 2 * Z * 2 ^ p * ((M - 1) * (M - 1)) < r * (N * N)
  inverse-low near = omega (arith, near.low, ap (λ (n : ℕ). (M - 1) * (M - 1) * n) (inverse-power k p), ap (λ (n : ℕ). r * n) (whole-square k))

  inverse-high : Multiplies InverseRoot k r p M → r * (N * N) < 2 * Z * 2 ^ p * ((M + 1) * (M + 1))
  inverse-high near = omega (arith, near.high, ap (λ (n : ℕ). (M + 1) * (M + 1) * n) (inverse-power k p), ap (λ (n : ℕ). r * n) (whole-square k))

  recip-twice : M ≡ r * 2 ^ (3 * k - 1) → 2 * M ≡ r * (Z * Z * Z)
  recip-twice is =
      omega (
        arith,
        is,
        ap (λ (n : ℕ). r * n) (power-of (3 * k) (1 ∷ (3 * k - 1) ∷ []) (omega arith)),
        ap (λ (n : ℕ). r * n) (power-of (3 * k) (k ∷ k ∷ k ∷ []) (omega arith)),
      )

  -- such an M has 4k + 2 bits at most
  pub multiplier-most : p ≤ 1 → 2 ^ k ≤ r → r ≤ 2 ^ (k + 1) → (op : Op) → Multiplies op k r p M → M ≤ 2 ^ (4 * k + 1)
  multiplier-most e least most op near = omega (arith, go op near, power-of (4 * k + 1) (1 ∷ 4 * k ∷ []) (omega arith))
    where
      top : r ≤ 2 * Z
      top = omega (arith, most, power-of (k + 1) (1 ∷ k ∷ []) (omega arith))

      go : (op : Op) → Multiplies op k r p M → M ≤ 2 * N
      go Reciprocal is = omega (arith, recip-multiplier Z N (2 ^ p) r M top (whole_is k) (recip-twice is))
      go Root near = root-multiplier Z N (2 ^ p) r M least (parity-most p e) (root-low near)
      go InverseRoot near = omega (arith, inverse-multiplier Z N (2 ^ p) r M top (pow_pos p) (inverse-low near))

module _ (k t y r p M b : ℕ) (h : 7 ≤ k) (e : p ≤ 1) (Y : Significand k t y) (least : 2 ^ k ≤ r) (most : r ≤ 2 ^ (k + 1)) where
  abbrev m : ℕ
  m = 3 * k + t - 1

  abbrev g : ℕ
  g = M * b / 2 ^ (4 * k)

  K : Setting (2 ^ k) (2 ^ (4 * k)) (2 ^ t) (2 ^ m) (2 ^ p) y r
  K = setting k t y r p h e Y least most

  F : Floored (2 ^ (4 * k)) M b g
  F = record { low = div-mul-le_self (M * b) (2 ^ (4 * k)); high = lt-div-mul-add (pow_pos (4 * k)) }

  -- g less its distance is under the exact value, and g more its distance is over it
  under : (op : Op) → Multiplies op k r p M → Close op (2 ^ (4 * k)) (2 ^ t) (y * r) b → Under op k m y p (g - bound_of op)
  under Reciprocal is C =
      omega (arith, recip-under K F (recip-twice k r p M h is) C, quotient-scale k m, mul-sub y g 12, K.significand, pow_pos (4 * k + m))
  under Root near C =
      rw square-scale (root-under K F (root-low k r p M h near) (root-high k r p M h near) C)
  under InverseRoot near C =
      rw square-scale (omega (arith, inverse-under K F (inverse-low k r p M h near) (inverse-high k r p M h near) C))

  -- and so is g less 5, for the reciprocal
  above : (op : Op) → Multiplies op k r p M → Close op (2 ^ (4 * k)) (2 ^ t) (y * r) b → Under op k m y p (g - above_of op)
  above Reciprocal is C =
      omega (arith, recip-under K F (recip-twice k r p M h is) C, quotient-scale k m, mul-sub y g 5, K.significand, pow_pos (4 * k + m))
  above Root near C = under Root near C
  above InverseRoot near C = under InverseRoot near C

  over : (op : Op) → Multiplies op k r p M → Close op (2 ^ (4 * k)) (2 ^ t) (y * r) b → Over op k m y p (g + bound_of op)
  over Reciprocal is C = rw quotient-scale (recip-over K F (recip-twice k r p M h is) C)
  over Root near C =
      rw square-scale (root_over K F (root-low k r p M h near) (root-high k r p M h near) C)
  over InverseRoot near C =
      rw square-scale (omega (arith, inverse-over K F (inverse-low k r p M h near) (inverse-high k r p M h near) C))

  bound-small : (op : Op) → bound_of op ≤ 12
  bound-small Reciprocal = omega arith
  bound-small Root = omega arith
  bound-small InverseRoot = omega arith

  -- the law: g is less than its distance away, and less far above, for any such M and b
  pub general : (op : Op) → Multiplies op k r p M → Close op (2 ^ (4 * k)) (2 ^ t) (y * r) b → Between op k t y p g
  general op near C =
      record {
        near = record {
          enough = omega (arith, over-least k t y p (g + bound_of op) h e Y op (over op near C), whole-least k h, bound-small op);
          under = under op near C;
          over = over op near C;
        };
        above = above op near C;
      }
