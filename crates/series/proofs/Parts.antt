-- Step 2 as the code works it, in 64-bit signed numbers. Assumes nothing.
use mathlib.Core.Path.{◌≡◌, refl, ap, ◌∙◌}
use mathlib.Core.List.{[], ◌∷◌}
use Prim.Native.Nat.{ℕ, ◌*◌, ◌/◌, zero-le}
use native.Mathlib.Omega.{arith}
use borrow.Author.Tests.{le-leb}
use lib.IntN.{ℤ, pos, negsuc, nat_abs, ◌-ℤ◌}
use lib.Signed.{non_neg, le_z}
use mir.Syntax.{w64}
use mir.Val.{Fits, SFits, to_z, of_z}
use Rattle.numbers.proofs.Signed.{X, given, lit, ◌⊟◌, Within, fits, held}
use Rattle.significand.specs.Width.{k32, t32, Significand}
use Rattle.significand.specs.Steps.{factor_of, difference_of, sign_of, reduced_of}
use Rattle.significand.proofs.Sizes.{reduced-small}
use Rattle.series.specs.Parts.{Reduced}
use Rattle.series.proofs.Bounds.{reduced-product}

-- a test of the sign
pub sign-test : (z : ℤ) → le_z (pos 0) z ≡ non_neg z
sign-test (pos n) = le-leb 0 n zero-le
sign-test (negsuc n) = refl

-- d, for a significand y and its R
module _ (y r : ℕ) (Y : Significand k32 t32 y) (e : r ≡ factor_of k32 (y / 65536)) where
  abbrev u : ℕ
  u = y * r

  abbrev difference : X
  difference = given 0 ⊟ lit (pos 2147483648)

  product-within : Within (pos u ∷ []) (8589934592 ∷ [])
  product-within = (omega (arith, reduced-product y r Y e), tt)

  pub product-fits : Fits w64 (y * r)
  product-fits = record { fits = omega (arith, reduced-product y r Y e) }

  pub product-signed : SFits w64 (pos (y * r))
  product-signed = record { sfits = omega (arith, reduced-product y r Y e) }

  pub difference-fits : SFits w64 (to_z w64 (y * r) -ℤ pos 2147483648)
  difference-fits = fits (pos u ∷ []) (8589934592 ∷ []) product-within difference tt

  difference-is : to_z w64 (of_z w64 (to_z w64 (y * r) -ℤ pos 2147483648)) ≡ difference_of k32 t32 u
  difference-is = held (pos u ∷ []) (8589934592 ∷ []) product-within difference tt

  -- step 2
  pub reduced-is : (m : ℕ) → m ≡ nat_abs (to_z w64 (of_z w64 (to_z w64 (y * r) -ℤ pos 2147483648)))
      → Reduced k32 t32 (y * r) (record { positive = le_z (pos 0) (to_z w64 (of_z w64 (to_z w64 (y * r) -ℤ pos 2147483648))); magnitude = m / 8 })
  unfolding sign_of reduced_of
  reduced-is m f =
      let magnitude : m / 8 ≡ reduced_of k32 t32 u = ap (λ (n : ℕ). n / 8) (f ∙ ap nat_abs difference-is) in
      record {
        sign = ap (le_z (pos 0)) difference-is ∙ sign-test (difference_of k32 t32 u);
        magnitude = magnitude;
        small = rw magnitude (reduced-small y Y r e);
      }
