-- A number's square, rounded to as many bits as the number has, has the number itself as its nearest root: over any format, for normal
-- numbers with a normal square. Assumes nothing.
use mathlib.Core.Path.{◌≡◌, refl, ap, ◌∙◌}
use mathlib.Core.Bool.{Bool}
use mathlib.Core.Logic.{inl, inr, by_cases}
use Prim.Native.Nat.{ℕ, suc, ◌+◌, ◌*◌, ◌-◌, ◌^◌, ◌≤◌, ◌<◌}
use native.Mathlib.Nat.{mul-le-mul_right, le_of_mul-le-mul_left, le_of_mul-le-mul_right, mul-pos, le_trans, lt_of_le_of_lt, pow-succ'}
use native.Mathlib.Decide.{dec_lt}
use native.Mathlib.Omega.{arith}
use lib.Pow.{pow_pos}
use Rattle.kinds.specs.declared.Op.TheVariants.{Root}
use Rattle.kinds.specs.declared.Mode.TheVariants.{Nearest}
use Rattle.numbers.proofs.Powers.{power_below, power-sum}
use Rattle.ieee.specs.Format.{Format, unit_of, infinity, magnitude_of}
use Rattle.ieee.specs.Rounded.{rounded_of}
use Rattle.ieee.proofs.Neighbours.{magnitude-normal}
use Rattle.ieee.proofs.Nearest.{nearest-is}
use Rattle.ieee.proofs.Squared as S

-- The number is m × d, m from P to 2P − 1. Its square is rounded to l by the unit u, of which it has P at least: for any P, not only
-- a power of two
module _ (P m d u l : ℕ) (p : 0 < P) (q : 0 < d) (least : P ≤ m) (most : m < 2 * P)
    (unit : P * u ≤ m * d * (m * d)) (low : 2 * (m * d * (m * d)) ≤ 2 * l + u) (high : 2 * l ≤ 2 * (m * d * (m * d)) + u) where
  -- the unit is less than 2·m·d² by d² at least
  unit-below : u + d * d ≤ 2 * (m * (d * d))
  unit-below =
      let e = d * d in
      let a : m * (m * e) + m * e ≤ 2 * P * (m * e) = omega (arith, mul-le-mul_right (m * e) most) in
      let b : P * e ≤ m * e = mul-le-mul_right e least in
      le_of_mul-le-mul_left {k = P} (omega (arith, unit, a, b)) p

  -- so the rounded square lies below the square of the midpoint above the number, and above that of the midpoint below it
  below-upper : 4 * l < (m * d + suc m * d) * (m * d + suc m * d)
  below-upper = omega (arith, unit-below, high, mul-pos q q)

  above_lower : (n : ℕ) → m ≡ suc n → (n * d + m * d) * (n * d + m * d) < 4 * l
  above_lower n e = rw e (omega (arith, rw e at unit-below, rw e at low, mul-pos q q))

-- a power of two that has a unit, itself one, at least once is not rounded
power-kept : (i j C : ℕ) → 2 ^ j ≤ 2 ^ i → 2 * 2 ^ i ≤ 2 * (C * 2 ^ j) + 2 ^ j → 2 ^ i ≤ C * 2 ^ j
power-kept i j C h low =
    let below : j < suc i = power_below j (suc i) (lt_of_le_of_lt h (omega (arith, pow-succ' 2 i, pow_pos i))) in
    let whole : 2 ^ (i - j) * 2 ^ j ≡ 2 ^ i = power-sum (i - j) j i (omega arith) in
    let most : 2 * 2 ^ (i - j) * 2 ^ j ≤ (2 * C + 1) * 2 ^ j = omega (arith, low, whole) in
    let kept : 2 ^ (i - j) ≤ C = omega (arith, le_of_mul-le-mul_right {k = 2 ^ j} most (pow_pos j)) in
    omega (arith, mul-le-mul_right (2 ^ j) kept, whole)

-- The number has the significand m under the exponent c, and its square is rounded to the significand C by dropping k digits
module _ (f : Format) (c m k C : ℕ) where
  abbrev square_of : ℕ
  square_of = S.square_of f c m k C

  abbrev dropped : ℕ
  dropped = S.dropped f c m k C

  module _ (least : 2 ^ f.fraction_bits ≤ m) (most : m < 2 ^ suc f.fraction_bits) (squared : S.Squared f c m k C) where
    abbrev p : ℕ
    p = f.fraction_bits

    -- a number that is a power of two has an exact square
    power-exact : m ≡ 2 ^ p → square_of ≤ C * dropped
    power-exact e =
        let root_is : m * 2 ^ c ≡ 2 ^ (p + c) = ap (λ (x : ℕ). x * 2 ^ c) e ∙ power-sum p c (p + c) refl in
        let square-is : square_of ≡ 2 ^ (p + c + (p + c)) = ap (λ (x : ℕ). x * x) root_is ∙ power-sum (p + c) (p + c) (p + c + (p + c)) refl in
        let unit-is : dropped ≡ 2 ^ (k + unit_of f) = power-sum k (unit_of f) (k + unit_of f) refl in
        let once : dropped ≤ square_of = le_trans (omega (arith, mul-le-mul_right dropped (pow_pos p))) squared.unit in
        let half : 2 * square_of ≤ 2 * (C * dropped) + dropped = squared.low in
        rw (square-is, unit-is)
        (power-kept (p + c + (p + c)) (k + unit_of f) C (rw (square-is, unit-is) at once) (rw (square-is, unit-is) at half))

    -- the rounded square is below the square of the midpoint above the number, and above that of the midpoint below it
    pub square-below : 4 * (C * dropped) < (m * 2 ^ c + suc m * 2 ^ c) * (m * 2 ^ c + suc m * 2 ^ c)
    square-below =
        below-upper (2 ^ p) m (2 ^ c) dropped (C * dropped) (pow_pos p) (pow_pos c) least (omega (arith, pow-succ' 2 p)) squared.unit squared.low squared.high

    square_above : (n : ℕ) → m ≡ suc n → (n * 2 ^ c + m * 2 ^ c) * (n * 2 ^ c + m * 2 ^ c) < 4 * (C * dropped)
    square_above =
        above_lower (2 ^ p) m (2 ^ c) dropped (C * dropped) (pow_pos p) (pow_pos c) least (omega (arith, pow-succ' 2 p)) squared.unit squared.low squared.high

    -- The nearest root of the rounded square is the number
    pub root-of-square : (negative : Bool) → c * 2 ^ p + m < infinity f → rounded_of f Root Nearest negative (C * 2 ^ k) ≡ c * 2 ^ p + m
    root-of-square negative finite =
        let s = c * 2 ^ p + (m - 1) in
        let e : suc s ≡ c * 2 ^ p + m = omega (arith, pow_pos p) in
        let w-is : magnitude_of f (suc s) ≡ m * 2 ^ c = ap (magnitude_of f) e ∙ magnitude-normal f c m least (omega arith) in
        let z-is : magnitude_of f (suc (suc s)) ≡ suc m * 2 ^ c =
        ap (magnitude_of f) (omega (arith, e)) ∙ magnitude-normal f c (suc m) (omega arith) (omega arith) in
        let l-is : C * dropped ≡ C * 2 ^ k * 2 ^ unit_of f = omega arith in
        let twice-is = pow-succ' 2 p in
        nearest-is f Root negative (C * 2 ^ k) s (omega arith) (rw (w-is, z-is, ← l-is) square-below)
        (by_cases (dec_lt (2 ^ p) m)
        (λ l.
        let v-is : magnitude_of f s ≡ (m - 1) * 2 ^ c = magnitude-normal f c (m - 1) (omega arith) (omega arith) in
        inr (rw (v-is, w-is, ← l-is) (square_above (m - 1) (omega (arith, pow_pos p)))))
        (λ l. inl (rw (w-is, ← l-is) (power-exact (omega arith)))))
        ∙ e
