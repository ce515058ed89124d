-- Steps 1, 2 and 5 at k = 15 as the code works them. Assumes nothing.
use mathlib.Core.Path.{◌≡◌, sym, ap, ◌∙◌}
use mathlib.Core.List.{[], ◌∷◌}
use Prim.Native.Nat.{ℕ, ◌*◌, ◌-◌, ◌/◌, ◌%◌, ◌^◌, ◌≤◌, ◌<◌}
use native.Mathlib.Nat.{mul-le-mul, mul-div-le, lt-mul-div-succ}
use native.Mathlib.Omega.{arith}
use lib.IntN.{ℤ, pos, nat_abs, ◌-ℤ◌}
use lib.Signed.{le_z}
use mir.Syntax.{w64}
use mir.Val.{Fits, SFits, to_z, of_z}
use Rattle.numbers.proofs.Signed.{given, ◌⊟◌, Within, fits, held}
use Rattle.significand.specs.Width.{k64, t64, Significand}
use Rattle.significand.specs.Steps.{index_of, factor_of, difference_of, sign_of, reduced_of}
use Rattle.significand.proofs.Reduction.{index-least, least, most, reduced-small}
use Rattle.significand.proofs.Split.{difference-split}
use Rattle.series.specs.Parts.{Reduced}
use Rattle.series.proofs.Parts.{sign-test}

-- i is not 0, and R has 16 bits, or is 2^16
module _ (y : ℕ) (Y : Significand k64 t64 y) where
  pub index-some : 0 < y / 2 ^ 37
  unfolding index_of
  index-some = omega (arith, index-least k64 t64 y (omega arith) Y)

  pub factor-is : (r : ℕ) → r ≡ 2147483648 / (y / 137438953472) → r ≡ factor_of k64 (y / 2 ^ 37)
  unfolding factor_of
  factor-is r e = e

  pub factor-least : (r : ℕ) → r ≡ 2147483648 / (y / 137438953472) → 32768 ≤ r
  unfolding index_of factor_of
  factor-least r e = rw e (least k64 t64 y (omega arith) Y)

  factor-top : factor_of k64 (y / 2 ^ 37) ≤ 65536
  unfolding index_of
  factor-top = most k64 t64 y (omega arith) Y

  pub factor-most : (r : ℕ) → r ≡ 2147483648 / (y / 137438953472) → r ≤ 65536
  unfolding factor_of
  factor-most r e = rw e factor-top

-- the reduction
module _ (y r : ℕ) (Y : Significand k64 t64 y) (e : r ≡ factor_of k64 (y / 2 ^ 37)) where
  factor-small : r ≤ 65536
  factor-small = rw e (factor-top y Y)

  -- R leaves less than i of 2^31
  factor-low : y / 2 ^ 37 * r ≤ 2147483648
  unfolding factor_of
  factor-low = rw e (mul-div-le 2147483648 (y / 2 ^ 37))

  factor-left : 2147483648 - y / 2 ^ 37 * r < 65536
  unfolding factor_of
  factor-left = rw e (omega (arith, lt-mul-div-succ 2147483648 {b = y / 2 ^ 37} (index-some y Y), Y.below))

  -- the two products have 53 bits
  abbrev up : ℕ
  up = y % 137438953472 * r

  abbrev down : ℕ
  down = (2147483648 - y / 137438953472 * r) * 137438953472

  up_small : up < 2 ^ 53
  up_small = omega (arith, mul-le-mul {n₁ = y % 137438953472} {m₁ = r} {n₂ = 137438953471} {m₂ = 65536} (omega arith) factor-small)

  down-small : down < 2 ^ 53
  down-small = omega (arith, factor-left)

  pub up_fits : Fits w64 (y % 137438953472 * r)
  up_fits = record { fits = omega (arith, up_small) }

  pub index-fits : Fits w64 (y / 137438953472 * r)
  index-fits = record { fits = omega (arith, factor-low) }

  pub left-fits : y / 137438953472 * r ≤ 2147483648
  left-fits = factor-low

  pub down_fits : Fits w64 ((2147483648 - y / 137438953472 * r) * 137438953472)
  down_fits = record { fits = omega (arith, down-small) }

  pub up-signed : SFits w64 (pos (y % 137438953472 * r))
  up-signed = record { sfits = omega (arith, up_small) }

  pub down-signed : SFits w64 (pos ((2147483648 - y / 137438953472 * r) * 137438953472))
  down-signed = record { sfits = omega (arith, down-small) }

  within : Within (pos up ∷ pos down ∷ []) (9007199254740992 ∷ 9007199254740992 ∷ [])
  within = (omega (arith, up_small), (omega (arith, down-small), tt))

  abbrev difference : ℤ
  difference = to_z w64 (y % 137438953472 * r) -ℤ to_z w64 ((2147483648 - y / 137438953472 * r) * 137438953472)

  pub difference-fits : SFits w64 (to_z w64 (y % 137438953472 * r) -ℤ to_z w64 ((2147483648 - y / 137438953472 * r) * 137438953472))
  difference-fits = fits (pos up ∷ pos down ∷ []) (9007199254740992 ∷ 9007199254740992 ∷ []) within (given 0 ⊟ given 1) tt

  difference-is : to_z w64 (of_z w64 difference) ≡ difference_of k64 t64 (y * r)
  unfolding index_of
  difference-is =
      held (pos up ∷ pos down ∷ []) (9007199254740992 ∷ 9007199254740992 ∷ []) within (given 0 ⊟ given 1) tt
      ∙ sym (difference-split k64 t64 y r (omega arith) factor-low)

  pub reduced-is : (m : ℕ)
      → m ≡ nat_abs (to_z w64 (of_z w64 (to_z w64 (y % 137438953472 * r) -ℤ to_z w64 ((2147483648 - y / 137438953472 * r) * 137438953472))))
      → Reduced k64 t64 (y * r)
      (record {
        positive = le_z (pos 0) (to_z w64 (of_z w64 (to_z w64 (y % 137438953472 * r) -ℤ to_z w64 ((2147483648 - y / 137438953472 * r) * 137438953472))));
        magnitude = m / 256;
      })
  unfolding sign_of reduced_of index_of
  reduced-is m f =
      let magnitude : m / 256 ≡ reduced_of k64 t64 (y * r) = ap (λ (n : ℕ). n / 256) (f ∙ ap nat_abs difference-is) in
      record {
        sign = ap (le_z (pos 0)) difference-is ∙ sign-test (difference_of k64 t64 (y * r));
        magnitude = magnitude;
        small = rw (magnitude, e) (reduced-small k64 t64 y (omega arith) Y);
      }
