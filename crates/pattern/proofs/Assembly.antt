-- A pattern taken apart, and put together with its sign. Assumes nothing.
use mathlib.Core.Path.{◌≡◌, refl, sym, ap, ◌∙◌}
use Prim.Native.Nat.{ℕ, ◌+◌, ◌*◌, ◌-◌, ◌/◌, ◌%◌, ◌^◌, ◌<◌}
use native.Mathlib.Nat.{mul-le-mul_right, div-lt_iff_lt-mul}
use native.Mathlib.Omega.{arith}
use lib.Bits.{bit_and, bit_or, and_mask, or_shifted}
use lib.Pow.{pow_pos, shl_exact, mod-mod-pow}
use Rattle.ieee.specs.Format.{Format, sign_bit, least_normal}
use Rattle.ieee.specs.Answer.{with_sign_bit}
use Rattle.pattern.specs.Format.{FormatLaws}
use Rattle.pattern.specs.Parts.{PartsOf}

module _ (f : Format) (m p : ℕ) (laws : FormatLaws f m p) (place : ℕ) (ep : place ≡ p) where
  place-is : place ≡ f.exponent_bits + f.fraction_bits
  place-is = ep ∙ laws.place-is

  -- a mask of ones is a remainder
  pub parts_are : (b bit normal fraction : ℕ) → b < 2 * sign_bit f → bit ≡ sign_bit f → normal ≡ least_normal f → fraction ≡ m
      → PartsOf f b
      (record {
        sign = b / 2 ^ place;
        exponent = bit_and b (bit - 1) / 2 ^ fraction;
        fraction = bit_and b (normal - 1);
        unsigned = bit_and b (bit - 1);
      })
  parts_are b bit normal fraction h eb en em =
      let e : ℕ = f.exponent_bits in
      let n : ℕ = f.fraction_bits in
      rw (place-is, eb, en, em ∙ laws.fraction-is, and_mask b n, and_mask b (e + n))
      (record {
        sign = refl;
        unsigned = refl;
        fields = record { exponent = refl; fraction = sym (mod-mod-pow b e n) };
        one_bit = (div-lt_iff_lt-mul (pow_pos (e + n))).1 h;
      })

  -- a sign of one bit, shifted to its place, leaves the rest free
  module _ (s t : ℕ) (one_bit : s < 2) (below : t < sign_bit f) where
    pub signed_is : bit_or (s * 2 ^ place % 2 ^ 64) t ≡ with_sign_bit f s t
    signed_is =
        let n : ℕ = f.exponent_bits + f.fraction_bits in
        rw place-is (ap (λ (x : ℕ). bit_or x t) (shl_exact 1 n 64 one_bit (omega (arith, laws.word))) ∙ or_shifted s n t below)

    pub signed_below : bit_or (s * 2 ^ place % 2 ^ 64) t < 2 * sign_bit f
    signed_below = rw signed_is (omega (arith, mul-le-mul_right {m = s} {n = 1} (sign_bit f) (omega arith)))
