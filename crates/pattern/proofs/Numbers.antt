-- The numbers of a format, worked out from how many bits its fields have. Assumes nothing.
use mathlib.Core.Path.{◌≡◌, sym, ap, ◌∙◌}
use Prim.Native.Nat.{ℕ, suc, ◌+◌, ◌*◌, ◌-◌, ◌%◌, ◌^◌, ◌≤◌, ◌<◌}
use native.Mathlib.Nat.{pow-suc, mod-eq_of_lt, pow-le-pow_right, mul-le-mul_right}
use native.Mathlib.Omega.{arith}
use lib.Dec.{lit<}
use lib.Pow.{pow_pos, pow-add}
use Rattle.ieee.specs.Format.{Format, sign_bit, infinity, least_normal, unit_of}
use Rattle.pattern.specs.Format.{FormatLaws}

module _ (f : Format) (m p : ℕ) (laws : FormatLaws f m p) where
  -- there are exponents enough
  pub some-exponents : 4 ≤ 2 ^ f.exponent_bits
  some-exponents = pow-le-pow_right {n = 2} (lit< tt) {i = 2} {j = f.exponent_bits} laws.exponents

  -- infinity is below the sign's bit, and the least normal number below infinity
  infinity-sum : infinity f + 2 ^ f.fraction_bits ≡ sign_bit f
  infinity-sum =
      let e : ℕ = 2 ^ f.exponent_bits in
      let n : ℕ = 2 ^ f.fraction_bits in
      let split : e * n ≡ (e - 1) * n + n = omega (arith, ap (λ (k : ℕ). k * n) (up e (omega (arith, some-exponents)))) in
      sym (pow-add 2 f.exponent_bits f.fraction_bits ∙ split)
    where
      up : (k : ℕ) → 0 < k → k ≡ k - 1 + 1
      up k h = omega arith

  pub above-infinity : infinity f < sign_bit f
  above-infinity = omega (arith, infinity-sum, pow_pos f.fraction_bits)

  pub above-normal : least_normal f < infinity f
  above-normal = omega (arith, infinity-sum, pow_pos f.fraction_bits, pow-add 2 f.exponent_bits f.fraction_bits, mul-le-mul_right (2 ^ f.fraction_bits) some-exponents)

  pub sign-fits : sign_bit f ≤ 2 ^ 63
  sign-fits = pow-le-pow_right {n = 2} (lit< tt) {i = f.exponent_bits + f.fraction_bits} {j = 63} laws.word

  -- by shifts
  pub infinity-worked : (place fraction again : ℕ) → place ≡ p → fraction ≡ m → again ≡ m
      → (1 * 2 ^ (place - fraction) % 2 ^ 64 - 1) * 2 ^ again % 2 ^ 64 ≡ infinity f
  infinity-worked place fraction again ep em ea =
      let width : place - fraction ≡ f.exponent_bits = omega (arith, ep, em, laws.place-is, laws.fraction-is) in
      let small : 1 * 2 ^ f.exponent_bits < 2 ^ 64 = omega (arith, pow-le-pow_right {n = 2} (lit< tt) {i = f.exponent_bits} {j = 63} (omega (arith, laws.word))) in
      let one : 1 * 2 ^ f.exponent_bits % 2 ^ 64 ≡ 2 ^ f.exponent_bits = mod-eq_of_lt small ∙ omega arith in
      rw (width, ea ∙ laws.fraction-is, one) (mod-eq_of_lt (omega (arith, above-infinity, sign-fits)))

  -- half of an exponent's numbers
  abbrev half : ℕ
  half = 2 ^ (f.exponent_bits - 1)

  pub exponents-double : 2 ^ f.exponent_bits ≡ 2 * half
  exponents-double = ap (λ (k : ℕ). 2 ^ k) up ∙ pow-suc 2 (f.exponent_bits - 1) ∙ omega arith
    where
      up : f.exponent_bits ≡ suc (f.exponent_bits - 1)
      up = omega (arith, laws.exponents)

  pub half-most : half ≤ 2 ^ 14
  half-most = pow-le-pow_right {n = 2} (lit< tt) {i = f.exponent_bits - 1} {j = 14} (omega (arith, laws.few))

  pub unit-worked : (place fraction again : ℕ) → place ≡ p → fraction ≡ m → again ≡ m
      → 1 * 2 ^ (place - fraction - 1) % 2 ^ 64 + again - 2 ≡ unit_of f
  unit-worked place fraction again ep em ea =
      let width : place - fraction - 1 ≡ f.exponent_bits - 1 = omega (arith, ep, em, laws.place-is, laws.fraction-is) in
      let small : 1 * half < 2 ^ 64 = omega (arith, half-most) in
      let one : 1 * half % 2 ^ 64 ≡ half = mod-eq_of_lt small ∙ omega arith in
      rw (width, ea ∙ laws.fraction-is, one) (omega (arith, some-exponents, exponents-double))

  pub unit-small : unit_of f < 2 ^ 16
  unit-small = omega (arith, half-most, laws.word)
