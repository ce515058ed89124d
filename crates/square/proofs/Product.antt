-- The language's product of a number with itself, rounded to nearest, has the number as its nearest root. Assumes nothing.
use mathlib.Core.Path.{◌≡◌, refl, sym, ap, subst, ◌∙◌}
use mathlib.Core.Bool.{false}
use Prim.Native.Nat.{ℕ, suc, ◌+◌, ◌*◌, ◌-◌, ◌/◌, ◌%◌, ◌^◌, ◌≤◌, ◌<◌}
use native.Mathlib.Nat.{mul-pos, mul-le-mul, mul-le-mul_right, le_of_mul-le-mul_right, lt_of_mul-lt-mul_right, lt_of_mul-lt-mul_left, add-le-add, le-div_iff_mul-le, div-lt_iff_lt-mul, lt_of_lt_of_le}
use native.Mathlib.Omega.{arith}
use lib.Pow.{pow_pos, pow_mono, pow-add}
use lib.Ieee as I
use lib.Ieee.{mul, round, of_bits, to_bits, size}
use lib.Ieee.Digits.{size-lt, size_reaches}
use lib.Ieee.Exact.{HasValue}
use lib.Ieee.Nearest.{closest}
use lib.Ieee.Positive.{mul_at, positive_of_value}
use lib.Ieee.Scale.{round_val, normal_of_fraction}
use Rattle.kinds.specs.declared.Op.TheVariants.{Root}
use Rattle.kinds.specs.declared.Mode.TheVariants.{Nearest}
use Rattle.ieee.specs.Format.{binary32, infinity, magnitude_of}
use Rattle.ieee.specs.Answer.{Answer, answer_of}
use Rattle.ieee.proofs.Neighbours.{magnitude-normal, rising-back}
use Rattle.ieee.proofs.Finite.{finite-answer}
use Rattle.ieee.proofs.Squared.{Squared}
use Rattle.ieee.proofs.Squares.{square-below, root-of-square}
use Rattle.square.proofs.Closest.{Near, closest-near, near-above, near-below}
use Rattle.square.proofs.Patterns.{pattern-value, value-bits}

-- A number n / den of at least P + 1 digits in its whole part, rounded to P + 1 digits: k digits are dropped, c is kept
record Kept (P n den k c : ℕ) : Type 0 where
  unit : 2 ^ P * 2 ^ k * den ≤ n
  near : Near n (den * 2 ^ k) c
  least : 2 ^ P ≤ c
  most : c ≤ 2 ^ suc P

kept-is : (P n den : ℕ) → 0 < den → suc P ≤ size (n / den) → Kept P n den (size (n / den) - suc P) (closest n (den * 2 ^ (size (n / den) - suc P)))
kept-is P n den p h =
    let z = size (n / den) in
    let k = z - suc P in
    let K = 2 ^ k in
    let c = closest n (den * K) in
    let unit : 2 ^ P * K * den ≤ n =
    subst (λ (x : ℕ). x * den ≤ n) (pow-add 2 P k) ((le-div_iff_mul-le p).0 (size_reaches (n / den) (P + k) (omega arith))) in
    let e : z ≡ suc P + k = omega arith in
    let under : n < 2 ^ suc P * K * den =
    subst (λ (x : ℕ). n < x * den) (ap (λ (x : ℕ). 2 ^ x) e ∙ pow-add 2 (suc P) k) ((div-lt_iff_lt-mul p).0 (size-lt (n / den))) in
    let q : 0 < den * K = mul-pos p (pow_pos k) in
    let near : Near n (den * K) c = closest-near n (den * K) q in
    record {
      unit = unit;
      near = near;
      least = near-above near q (2 ^ P) (omega (arith, unit));
      most = near-below near q (2 ^ suc P) (omega (arith, under));
    }

-- the square S in units of 1 / E², E = 2^149 being the number of units in 1, and the product S × E / E² that is rounded, K the power of
-- two that is dropped from it
module _ (S E K C : ℕ) (p : 0 < E) where
  cancel-unit : (P : ℕ) → P * K * (E * E) ≤ S * E → P * (K * E) ≤ S
  cancel-unit P h = le_of_mul-le-mul_right {k = E} (omega (arith, h)) p

  cancel-low : Near (S * E) (E * E * K) C → 2 * S ≤ 2 * (C * (K * E)) + K * E
  cancel-low n = le_of_mul-le-mul_right {k = E} (omega (arith, n.low)) p

  cancel-high : Near (S * E) (E * E * K) C → 2 * (C * (K * E)) ≤ 2 * S + K * E
  cancel-high n = le_of_mul-le-mul_right {k = E} (omega (arith, n.high)) p

cancel-finite : (C K B E : ℕ) → 4 * (C * (K * E)) < 4 * (B * E) → C * K < B
cancel-finite C K B E h = lt_of_mul-lt-mul_right E {m = C * K} {n = B} (lt_of_mul-lt-mul_left 4 {m = C * K * E} {n = B * E} (omega (arith, h)))

-- the magnitude of infinity
infinity-is : magnitude_of binary32 (infinity binary32) ≡ 2 ^ 277
unfolding magnitude_of
infinity-is = refl

-- the number with the significand m under the exponent c, from 2^-63 to below 2^64
module _ (c m : ℕ) (least : 2 ^ 23 ≤ m) (most : m < 2 ^ 24) (from : 63 ≤ c) (to : c ≤ 189) where
  abbrev t : ℕ
  t = c * 2 ^ 23 + m

  abbrev d : ℕ
  d = 2 ^ c

  abbrev S : ℕ
  S = m * d * (m * d)

  -- its square, as the product has it before rounding: n / den units
  abbrev den : ℕ
  den = 2 ^ 149 * 2 ^ 149

  abbrev n : ℕ
  n = S * 2 ^ 149

  abbrev k : ℕ
  k = size (n / den) - 24

  abbrev C : ℕ
  C = closest n (den * 2 ^ k)

  -- the rounded product's pattern
  abbrev b : ℕ
  b = k * 2 ^ 23 + C

  big : 2 ^ 86 ≤ m * d
  big = mul-le-mul {n₁ = 2 ^ 23} {m₁ = 2 ^ 63} {n₂ = m} {m₂ = d} least (pow_mono from)

  positive : 0 < den
  positive = mul-pos (pow_pos 149) (pow_pos 149)

  -- the square is a normal number or more
  digits : 24 ≤ size (n / den)
  digits = normal_of_fraction I.binary32 S den positive (mul-le-mul_right (2 ^ 149) (mul-le-mul big big))

  kept : Kept 23 n den k C
  kept = kept-is 23 n den positive digits

  squared : Squared binary32 c m k C
  squared =
      record {
        unit = cancel-unit S (2 ^ 149) (2 ^ k) C (pow_pos 149) (2 ^ 23) kept.unit;
        low = cancel-low S (2 ^ 149) (2 ^ k) C (pow_pos 149) kept.near;
        high = cancel-high S (2 ^ 149) (2 ^ k) C (pow_pos 149) kept.near;
      }

  -- the product does not reach infinity
  finite : C * 2 ^ k < 2 ^ 277
  finite =
      let D : d ≤ 2 ^ 189 = pow_mono to in
      let x : m * d ≤ 2 ^ 213 = mul-le-mul {n₁ = m} {m₁ = d} {n₂ = 2 ^ 24} {m₂ = 2 ^ 189} (omega arith) D in
      let y : suc m * d ≤ 2 ^ 213 = mul-le-mul {n₁ = suc m} {m₁ = d} {n₂ = 2 ^ 24} {m₂ = 2 ^ 189} (omega arith) D in
      let z : m * d + suc m * d ≤ 2 ^ 214 = add-le-add x y in
      cancel-finite C (2 ^ k) (2 ^ 277) (2 ^ 149) (lt_of_lt_of_le (square-below binary32 c m k C least most squared) (mul-le-mul z z))

  pattern-is : magnitude_of binary32 b ≡ C * 2 ^ k
  pattern-is = magnitude-normal binary32 k C kept.least kept.most

  pattern-finite : b < infinity binary32
  pattern-finite = rising-back binary32 b (infinity binary32) (rw (pattern-is, infinity-is) finite)

  -- what the language makes of it
  abbrev x : I.Float
  x = of_bits I.binary32 t

  x-value : HasValue x false (m * d) (2 ^ 149)
  x-value =
      subst (λ (a : ℕ). HasValue x false a (2 ^ 149)) (magnitude-normal binary32 c m least (omega arith)) (pattern-value t (omega arith))

  product_is : mul I.binary32 x x ≡ round I.binary32 false S den
  product_is =
      let p = positive_of_value x (m * d) (2 ^ 149) x-value (omega (arith, big, pow_pos 86)) in
      mul_at I.binary32 x x (m * d) (2 ^ 149) (m * d) (2 ^ 149) p p (pow_pos 149) (pow_pos 149) x-value x-value

  product-bits : to_bits I.binary32 (mul I.binary32 x x) ≡ b
  product-bits =
      ap (to_bits I.binary32) product_is
      ∙ value-bits (round I.binary32 false S den) b pattern-finite
      (subst (λ (a : ℕ). HasValue (round I.binary32 false S den) false a (2 ^ 149)) (sym pattern-is) (round_val I.binary32 S den finite))

  -- so the nearest root is the number
  root-of-product : (answer_of binary32 Root Nearest (to_bits I.binary32 (mul I.binary32 x x))).bits ≡ t
  root-of-product =
      ap (λ (y : ℕ). (answer_of binary32 Root Nearest y).bits) product-bits
      ∙ ap (λ (y : Answer). y.bits) (finite-answer binary32 Root Nearest b (omega (arith, kept.least)) pattern-finite)
      ∙ rw pattern-is (root-of-square binary32 c m k C least most squared false (omega arith))

-- the same of a pattern from that of 2^-63 to below that of 2^64
pub pattern-back : (t : ℕ) → 0x20000000 ≤ t → t < 0x5F800000
    → (answer_of binary32 Root Nearest (to_bits I.binary32 (mul I.binary32 (of_bits I.binary32 t) (of_bits I.binary32 t)))).bits ≡ t
pattern-back t h k =
    let c = t / 8388608 - 1 in
    let m = t % 8388608 + 8388608 in
    let e : c * 2 ^ 23 + m ≡ t = omega arith in
    subst (λ (s : ℕ). (answer_of binary32 Root Nearest (to_bits I.binary32 (mul I.binary32 (of_bits I.binary32 s) (of_bits I.binary32 s)))).bits ≡ s) e
    (root-of-product c m (omega arith) (omega arith) (omega arith) (omega arith))
