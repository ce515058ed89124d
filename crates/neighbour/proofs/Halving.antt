-- The scale and the parity of each operation. Assumes nothing.
use mathlib.Core.Path.{◌≡◌, refl, sym, ◌∙◌}
use Prim.Native.Nat.{ℕ, suc, ◌+◌, ◌*◌, ◌-◌, ◌/◌, ◌%◌, ◌^◌, ◌≤◌, ◌<◌}
use native.Mathlib.Nat.{pow-suc}
use native.Mathlib.Omega.{arith}
use Rattle.kinds.specs.declared.Op.{Op}
use Rattle.kinds.specs.declared.Op.TheVariants.{Reciprocal, Root, InverseRoot}
use Rattle.ieee.specs.Format.{Format, unit_of}
use Rattle.pattern.specs.Format.{FormatLaws}
use Rattle.pattern.proofs.Numbers.{exponents-double}
use Rattle.neighbour.specs.Scales.{ScalesOf}

module _ (f : Format) (m p : ℕ) (laws : FormatLaws f m p) (j : ℕ) (few : j + 2 < 2 ^ f.exponent_bits + f.fraction_bits) (op : Op) (u n : ℕ) (eu : u ≡ unit_of f) (en : n ≡ m) where
  width : n ≡ f.fraction_bits
  width = en ∙ laws.fraction-is

  -- an operand's exponent is at most the reciprocal's first scale
  pub exponent-most : j ≤ 2 * u + 1 - n
  exponent-most = omega (arith, few, eu, width, laws.wide, exponents-double f m p laws)

  double : 2 ^ suc f.exponent_bits ≡ 2 * 2 ^ f.exponent_bits
  double = pow-suc 2 f.exponent_bits ∙ omega arith

  pub reciprocal-scales : op ≡ Reciprocal → ScalesOf f op j (record { scale = 2 * u + 1 - n - j; parity = 0 })
  reciprocal-scales o =
      record {
        scale-is = rw (o, eu, width) refl;
        parity-is = rw o refl;
        one_bit = omega arith;
        even = λ e. refl;
        small = omega (arith, few, eu, width, laws.wide, exponents-double f m p laws, double);
      }

  pub root-scales : op ≡ Root → ScalesOf f op j (record { scale = (j + (u + 4 - 2 * n)) / 2; parity = (j + (u + 4 - 2 * n)) % 2 })
  root-scales o =
      record {
        scale-is = rw (o, eu, width) refl;
        parity-is = rw (o, eu, width) refl;
        one_bit = omega arith;
        even = λ e. absurd (differ (sym o ∙ e));
        small = omega (arith, few, eu, width, laws.wide, exponents-double f m p laws, double);
      }
    where
      differ : Root ≡ Reciprocal → ⊥
      differ e = let z : ◌≡◌ {A = ℕ} 0 1 = cc in omega arith

  pub inverse-scales : op ≡ InverseRoot → ScalesOf f op j (record { scale = (3 * u + 2 - 2 * n - j + 1) / 2; parity = (3 * u + 2 - 2 * n - j) % 2 })
  inverse-scales o =
      record {
        scale-is = rw (o, eu, width) refl;
        parity-is = rw (o, eu, width) refl;
        one_bit = omega arith;
        even = λ e. absurd (differ (sym o ∙ e));
        small = omega (arith, few, eu, width, laws.wide, exponents-double f m p laws, double);
      }
    where
      differ : InverseRoot ≡ Reciprocal → ⊥
      differ e = let z : ◌≡◌ {A = ℕ} 0 1 = cc in omega arith
