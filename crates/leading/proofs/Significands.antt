-- The 24 highest bits of a number below 2^64 are a significand, at most one unit too small. Assumes nothing.
use mathlib.Core.Path.{◌≡◌, sym, ap, ◌∙◌, subst}
use Prim.Native.Nat.{ℕ, suc, ◌+◌, ◌-◌, ◌*◌, ◌/◌, ◌%◌, ◌^◌, ◌≤◌, ◌<◌}
use native.Mathlib.Nat.{pow-suc, mod-eq_of_lt, mul-div-le, lt-mul-div-succ, mul-le-mul_right}
use native.Mathlib.Omega.{arith}
use lib.Count.{count_leading_zeros, leading_top}
use lib.Pow.{pow_pos, pow-add}
use mir.Syntax.{w64}
use mir.Val.{Fits}
use Rattle.significand.specs.Width.{k32, t32, Significand}
use Rattle.leading.specs.Leading.{LeadingOf}

-- the place of the highest bit, counted from 0
abbrev pub exponent_of : ℕ → ℕ
exponent_of n = 63 - count_leading_zeros 64 n

-- the 24 highest bits
abbrev significand_of : ℕ → ℕ
significand_of n = n * 2 ^ count_leading_zeros 64 n % 2 ^ 64 / 2 ^ 40

module _ (n : ℕ) (pos : 0 < n) (small : n < 2 ^ 64) where
  pub zeros-most : count_leading_zeros 64 n ≤ 63
  zeros-most = let top = leading_top 64 n pos small in omega (arith, top.1)

  pub zeros-fit : Fits w64 (count_leading_zeros 64 n)
  zeros-fit = omega (arith, zeros-most)

  pub zeros-below : count_leading_zeros 64 n < 64
  zeros-below = omega (arith, zeros-most)

  -- the highest bit is at that place
  pub top-is : 2 ^ exponent_of n ≤ n
  top-is =
      let top = leading_top 64 n pos small in
      let e : top.0 ≡ exponent_of n = omega (arith, top.1) in
      subst (λ (j : ℕ). 2 ^ j ≤ n) e top.2

  pub top-next : n < 2 * 2 ^ exponent_of n
  top-next =
      let top = leading_top 64 n pos small in
      let e : top.0 ≡ exponent_of n = omega (arith, top.1) in
      subst (λ (j : ℕ). n < 2 * 2 ^ j) e (omega (arith, top.3, pow-suc 2 top.0))

  powers : 2 ^ count_leading_zeros 64 n * 2 ^ exponent_of n ≡ 2 ^ 63
  powers =
      let e : count_leading_zeros 64 n + exponent_of n ≡ 63 = omega (arith, zeros-most) in
      sym (pow-add 2 (count_leading_zeros 64 n) (exponent_of n)) ∙ ap (λ (j : ℕ). 2 ^ j) e

  -- n with its highest bit brought to the highest of 64
  lifted-least : 2 ^ 63 ≤ n * 2 ^ count_leading_zeros 64 n
  lifted-least = omega (arith, powers, mul-le-mul_right (2 ^ count_leading_zeros 64 n) top-is)

  lifted-most : n * 2 ^ count_leading_zeros 64 n < 2 ^ 64
  lifted-most =
      let h : suc n ≤ 2 * 2 ^ exponent_of n = top-next in
      let pos : 0 < 2 ^ count_leading_zeros 64 n = pow_pos (count_leading_zeros 64 n) in
      omega (arith, powers, mul-le-mul_right (2 ^ count_leading_zeros 64 n) h)

  lifted-is : significand_of n ≡ n * 2 ^ count_leading_zeros 64 n / 2 ^ 40
  lifted-is = ap (λ (x : ℕ). x / 2 ^ 40) (mod-eq_of_lt lifted-most)

  significand-is : Significand k32 t32 (significand_of n)
  significand-is = record { least = rw lifted-is (omega (arith, lifted-least)); below = rw lifted-is (omega (arith, lifted-most)) }

  -- n · 2^23 lies from the significand to the next, times the power
  power-low : significand_of n * 2 ^ exponent_of n ≤ n * 2 ^ 23
  power-low =
      rw lifted-is
      (omega (
        arith,
        ap (λ (x : ℕ). n * x) powers,
        mul-le-mul_right (2 ^ exponent_of n) (mul-div-le (n * 2 ^ count_leading_zeros 64 n) (2 ^ 40)),
      ))

  power-high : n * 2 ^ 23 ≤ (significand_of n + 1) * 2 ^ exponent_of n
  power-high =
      let h : n * 2 ^ count_leading_zeros 64 n ≤ 2 ^ 40 * (n * 2 ^ count_leading_zeros 64 n / 2 ^ 40 + 1) =
      omega (arith, lt-mul-div-succ (n * 2 ^ count_leading_zeros 64 n) {b = 2 ^ 40} (omega arith)) in
      rw lifted-is (omega (arith, ap (λ (x : ℕ). n * x) powers, mul-le-mul_right (2 ^ exponent_of n) h))

  pub leading-is : LeadingOf n (significand_of n) (exponent_of n)
  leading-is =
      record {
        significand = significand-is;
        low = power-low;
        high = power-high;
        highest = top-is;
        next = omega (arith, top-next, pow-add 2 (exponent_of n) 1);
        most = omega arith;
      }
