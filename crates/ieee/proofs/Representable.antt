-- Which magnitudes are those of a format's finite patterns: the ones with a short significand, below infinity's. Assumes nothing.
use mathlib.Core.Path.{◌≡◌, refl, ap, subst, ◌∙◌}
use mathlib.Core.Logic.{by_cases}
use Prim.Native.Nat.{ℕ, zero, suc, ◌+◌, ◌*◌, ◌-◌, ◌/◌, ◌%◌, ◌^◌, ◌≤◌, ◌<◌}
use native.Mathlib.Nat.{add-zero, one-mul, pow-succ', mod-lt}
use native.Mathlib.Decide.{dec_lt}
use native.Mathlib.Omega.{arith}
use lib.Pow.{pow_pos, pow_mono, pow-lt}
use Rattle.numbers.proofs.Powers.{power-sum}
use Rattle.ieee.specs.Format.{Format, bias_of, unit_of, infinity, scaled, magnitude_of}
use Rattle.ieee.proofs.Neighbours.{magnitude-fields, magnitude-small, magnitude-normal, rising-back}

-- what is asked of a format: both fields have bits, and the exponents reach as far as the fraction is long
pub record Regular (f : Format) : Type 0 where
  pub exponent : 0 < f.exponent_bits
  pub fraction : 0 < f.fraction_bits
  pub wide : f.fraction_bits ≤ suc (bias_of f)

-- the same of its unit u and its bias b, with the magnitude of infinity
pub record Sizes (f : Format) (u b : ℕ) : Type 0 where
  pub unit : suc u ≡ b + f.fraction_bits
  pub fraction : 0 < f.fraction_bits
  pub wide : f.fraction_bits ≤ suc b
  pub top : magnitude_of f (infinity f) ≡ 2 ^ (u + suc b)

-- v has a significand of at most m + 1 bits
pub record Short (m v : ℕ) : Type 0 where
  pub significand : ℕ
  pub scale : ℕ
  pub short : significand < 2 ^ suc m
  pub is : v ≡ significand * 2 ^ scale

-- v is the magnitude of a finite pattern
pub record Number (f : Format) (v : ℕ) : Type 0 where
  pub pattern : ℕ
  pub finite : pattern < infinity f
  pub is : magnitude_of f pattern ≡ v

-- a regular format has these sizes
pub sizes : (f : Format) → Regular f → Sizes f (unit_of f) (bias_of f)
sizes f r =
    let m = f.fraction_bits in
    let n = f.exponent_bits - 1 in
    let half : 2 ^ f.exponent_bits ≡ 2 * 2 ^ n = ap (λ (k : ℕ). 2 ^ k) (omega (arith, r.exponent)) ∙ pow-succ' 2 n in
    let odd : 2 ^ f.exponent_bits - 1 ≡ suc (2 * (2 ^ n - 1)) = omega (arith, pow_pos n) in
    let unit : suc (unit_of f) ≡ bias_of f + m = omega (arith, r.fraction) in
    record {
      unit = unit;
      fraction = r.fraction;
      wide = r.wide;
      top =
          ap (magnitude_of f) (rw odd (omega arith)) ∙ magnitude-fields f (suc (2 * (2 ^ n - 1))) 0 (pow_pos m)
          ∙ ap (λ (k : ℕ). k * 2 ^ (2 * (2 ^ n - 1))) (add-zero (2 ^ m))
          ∙ power-sum m (2 * bias_of f) (unit_of f + suc (bias_of f)) (omega (arith, unit));
    }

-- the magnitude of two fields has a short significand
scaled-short : (m e x : ℕ) → x < 2 ^ m → Short m (scaled m e x)
scaled-short m zero x h = record { significand = x; scale = 0; short = omega (arith, pow-succ' 2 m); is = omega arith }
scaled-short m (suc e) x h = record { significand = 2 ^ m + x; scale = e; short = omega (arith, pow-succ' 2 m); is = refl }

-- the same of a pattern
pub magnitude-short : (f : Format) (t : ℕ) → Short f.fraction_bits (magnitude_of f t)
unfolding magnitude_of
magnitude-short f t = scaled-short f.fraction_bits (t / 2 ^ f.fraction_bits) (t % 2 ^ f.fraction_bits) (mod-lt t (pow_pos f.fraction_bits))

-- a magnitude below infinity's has a finite pattern, if it has one
number_at : (f : Format) (t v : ℕ) → magnitude_of f t ≡ v → v < magnitude_of f (infinity f) → Number f v
number_at f t v e l = record { pattern = t; finite = rising-back f t (infinity f) (rw e l); is = e }

-- a short magnitude below infinity's has one: a significand with its top bit set stands under its exponent, a smaller one is doubled first
number : (f : Format) (n c : ℕ) → n < 2 ^ suc f.fraction_bits → n * 2 ^ c < magnitude_of f (infinity f) → Number f (n * 2 ^ c)
number f n zero h l = number_at f n (n * 2 ^ 0) (magnitude-small f n (omega arith) ∙ omega arith) l
number f n (suc c) h l =
    let twice : 2 * n * 2 ^ c ≡ n * 2 ^ suc c = rw (pow-succ' 2 c) (omega arith) in
    by_cases (dec_lt n (2 ^ f.fraction_bits))
    (λ k. subst (Number f) twice (number f (2 * n) c (omega (arith, pow-succ' 2 f.fraction_bits)) (rw twice l)))
    (λ k. number_at f (suc c * 2 ^ f.fraction_bits + n) (n * 2 ^ suc c) (magnitude-normal f (suc c) n (omega arith) (omega arith)) l)

-- the same of any magnitude that is short
pub number_short : (f : Format) (v : ℕ) → Short f.fraction_bits v → v < magnitude_of f (infinity f) → Number f v
number_short f v r l = rw r.is (number f r.significand r.scale r.short (rw r.is at l))

-- a power of two up to 2^(u + b) is a number
pub power-number : {f : Format} {u b : ℕ} → Sizes f u b → (j : ℕ) → j ≤ u + b → Number f (2 ^ j)
power-number {f} {u} {b} s j h =
    subst (Number f) (one-mul (2 ^ j))
    (number f 1 j (omega (arith, pow_mono {i = 1} {j = suc f.fraction_bits} (omega arith)))
    (rw s.top (omega (arith, pow-lt {i = j} {j = u + suc b} (omega arith)))))
