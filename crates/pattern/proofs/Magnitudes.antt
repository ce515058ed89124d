-- A magnitude as a significand and a power of two. Assumes nothing.
use mathlib.Core.Path.{◌≡◌, refl, sym, ap, ◌∙◌}
use Prim.Native.Nat.{ℕ, zero, suc, ◌+◌, ◌*◌, ◌-◌, ◌/◌, ◌%◌, ◌^◌, ◌≤◌, ◌<◌}
use native.Mathlib.Nat.{pow-suc, mod-eq_of_lt, mod-lt, div-le_self, mul-le-mul_right, mul-lt-mul_of_pos_right, div-lt_iff_lt-mul, lt-mul-div-succ}
use native.Mathlib.Omega.{arith}
use lib.Count.{count_leading_zeros}
use lib.Pow.{pow_pos}
use mir.Syntax.{w64}
use mir.Val.{Fits}
use Rattle.numbers.proofs.Powers.{power_below, power-sum}
use Rattle.leading.proofs.Significands.{exponent_of, zeros-most, top-is, top-next}
use Rattle.ieee.specs.Format.{Format, least_normal, scaled, magnitude_of}
use Rattle.ieee.proofs.Neighbours.{magnitude-small}
use Rattle.pattern.specs.Format.{FormatLaws}
use Rattle.pattern.specs.Parts.{FieldsOf}
use Rattle.pattern.proofs.Numbers.{above-infinity, above-normal, sign-fits, some-exponents}
use Rattle.pattern.specs.Operand.{Ordinary, Scaling}
use Rattle.pattern.specs.declared.parts.Parts.{Parts}

-- a number t below 2^m whose highest bit is 2^j, with this bit brought to the place of 2^m
module _ (m t j : ℕ) (low : 2 ^ j ≤ t) (high : t < 2 * 2 ^ j) (small : t < 2 ^ m) where
  below : j < m
  below = power_below j m (omega arith)

  powers : 2 ^ (m - j) * 2 ^ j ≡ 2 ^ m
  powers = power-sum (m - j) j m (omega (arith, below))

  lifted-is : t * 2 ^ m ≡ t * 2 ^ (m - j) * 2 ^ j
  lifted-is = omega (arith, ap (λ (n : ℕ). t * n) powers)

  lifted-least : 2 ^ m ≤ t * 2 ^ (m - j)
  lifted-least = omega (arith, powers, mul-le-mul_right (2 ^ (m - j)) low)

  lifted-most : t * 2 ^ (m - j) < 2 * 2 ^ m
  lifted-most = omega (arith, powers, mul-lt-mul_of_pos_right high (pow_pos (m - j)))

-- the magnitude of a pattern with the exponent e, not 0, and the fraction x
normal-is : (m e x : ℕ) → 1 ≤ e → scaled m e x * 2 ^ m ≡ (2 ^ m + x) * 2 ^ (e + m - 1)
normal-is m zero x p = absurd (omega arith)
normal-is m (suc e) x p = omega (arith, ap (λ (n : ℕ). (2 ^ m + x) * n) (power-sum e m (suc e + m - 1) (omega arith)))

-- a floored quotient that is 0
div-zero-lt : (n d : ℕ) → 0 < d → n / d ≡ 0 → n < d
div-zero-lt n d some e = omega (arith, lt-mul-div-succ n some, ap (λ (q : ℕ). d * q) e)

module _ (f : Format) (m p : ℕ) (laws : FormatLaws f m p) (x : Parts) (o : Ordinary f x.unsigned) (d : FieldsOf f x) where
  abbrev t : ℕ
  t = x.unsigned

  abbrev n : ℕ
  n = f.fraction_bits

  -- what is worked from the operand fits a word
  whole : t < 2 ^ 64
  whole = omega (arith, o.finite, above-infinity f m p laws, sign-fits f m p laws)

  fraction-small : x.fraction < 2 ^ n
  fraction-small = rw d.fraction (mod-lt t (pow_pos n))

  module _ (normal : ℕ) (en : normal ≡ least_normal f) where
    pub significand-fits : Fits w64 (normal + x.fraction)
    significand-fits = omega (arith, en, fraction-small, above-normal f m p laws, above-infinity f m p laws, sign-fits f m p laws)

  module _ (fraction : ℕ) (em : fraction ≡ m) where
    pub exponent-fits : Fits w64 (x.exponent + fraction)
    exponent-fits = omega (arith, em, laws.fraction-is, laws.word, d.exponent, div-le_self t (2 ^ n), o.finite, above-infinity f m p laws, sign-fits f m p laws)

  -- a subnormal operand is its fraction
  module _ (subnormal : x.exponent ≡ 0) where
    small : t < 2 ^ n
    small = div-zero-lt t (2 ^ n) (pow_pos n) (sym d.exponent ∙ subnormal)

    alone : x.fraction ≡ t
    alone = d.fraction ∙ mod-eq_of_lt small

    pub zeros-few : count_leading_zeros 64 x.fraction ≤ 63
    zeros-few = rw alone (zeros-most t o.some whole)

    pub zeros-cast : Fits w64 (count_leading_zeros 64 x.fraction)
    zeros-cast = omega (arith, zeros-few)

    low : 2 ^ exponent_of t ≤ t
    low = top-is t o.some whole

    high : t < 2 * 2 ^ exponent_of t
    high = top-next t o.some whole

    module _ (fraction : ℕ) (em : fraction ≡ m) where
      fraction-is : fraction ≡ n
      fraction-is = em ∙ laws.fraction-is

      pub exponent-few : exponent_of x.fraction ≤ fraction
      exponent-few = rw alone (omega (arith, fraction-is, below n t (exponent_of t) low high small))

      pub subnormal-scaled : Scaling f (magnitude_of f x.unsigned)
          (record { significand = x.fraction * 2 ^ (fraction - exponent_of x.fraction) % 2 ^ 64; exponent = exponent_of x.fraction })
      subnormal-scaled =
          let j = exponent_of t in
          let most = lifted-most n t j low high small in
          let fits : t * 2 ^ (n - j) % 2 ^ 64 ≡ t * 2 ^ (n - j) = mod-eq_of_lt (omega (arith, most, above-normal f m p laws, above-infinity f m p laws, sign-fits f m p laws)) in
          rw (alone, fraction-is, fits, magnitude-small f t (omega (arith, small, pow-suc 2 n)))
          (record {
            is = lifted-is n t j low high small;
            least = lifted-least n t j low high small;
            below = omega (arith, most, pow-suc 2 n);
            small = omega (arith, below n t j low high small, some-exponents f m p laws);
          })

  module _ (normal fraction : ℕ) (en : normal ≡ least_normal f) (em : fraction ≡ m) where
    pub normal-scaled : 0 < x.exponent
        → Scaling f (magnitude_of f x.unsigned) (record { significand = normal + x.fraction; exponent = x.exponent + fraction - 1 })
    unfolding magnitude_of
    normal-scaled some =
        let e : 1 ≤ t / 2 ^ n = omega (arith, d.exponent, some) in
        let r : t % 2 ^ n < 2 ^ n = mod-lt t (pow_pos n) in
        rw (d.exponent, d.fraction, en, em ∙ laws.fraction-is)
        (record {
          is = normal-is n (t / 2 ^ n) (t % 2 ^ n) e;
          least = omega arith;
          below = omega (arith, pow-suc 2 n);
          small = omega (arith, (div-lt_iff_lt-mul (pow_pos n)).1 o.finite);
        })

    pub normal-exponent : x.exponent + fraction - 1 ≡ x.exponent + f.fraction_bits - 1
    normal-exponent = rw (em ∙ laws.fraction-is) refl
