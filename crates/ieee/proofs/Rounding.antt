-- The rounded result and its flags, from the pattern below the exact result and the two bits of its place. Assumes nothing.
use mathlib.Core.Path.{◌≡◌, sym, ap, subst, ◌∙◌}
use mathlib.Core.Bool.{Bool, cond, not, ◌&&◌, ◌||◌}
use mathlib.Core.Logic.{by_cases}
use Prim.Native.Nat.{ℕ, suc, ◌+◌, ◌%◌, ◌<◌}
use native.Mathlib.Nat.{le_trans, lt_of_lt_of_le}
use native.Mathlib.Decide.{dec_lt}
use native.Mathlib.Omega.{arith}
use borrow.Author.Tests.{le-leb, lt-leb, lt-ltb, le-ltb}
use lib.Dec.{ltb, eqb}
use Rattle.kinds.specs.declared.Op.{Op}
use Rattle.kinds.specs.declared.Mode.{Mode}
use Rattle.kinds.specs.Rounding.{away}
use Rattle.kinds.specs.Guard.{place_of}
use Rattle.kinds.proofs.Places.{off-lower, taken_is}
use Rattle.kinds.specs.Flag.{overflow, underflow, inexact}
use Rattle.ieee.specs.Format.{Format, unit_of, infinity, least_normal, magnitude_of}
use Rattle.ieee.specs.Rounded.{side, limit, fits, place_at, rounded_of, is_inexact, is_overflow, is_underflow, flags_of}
use Rattle.ieee.specs.Guarded.{Below}
use Rattle.ieee.proofs.Neighbours.{rising≤, side-rising, Lower, lower-found}

module _ (f : Format) (op : Op) (x t : ℕ) (half more beyond : Bool) (b : Below f op x t half more beyond) where
  -- the rounded pattern
  pub rounded-is : (mode : Mode) (negative : Bool)
      → rounded_of f op mode negative x ≡ cond (away mode negative (eqb (t % 2) 1) (place_of half more)) (suc t) t
  unfolding rounded_of
  rounded-is mode negative = rw (b.lower, b.place) (taken_is mode negative t (place_of half more))

  pub inexact-is : is_inexact f op x ≡ half || more
  unfolding is_inexact place_at
  inexact-is = rw b.lower (off-lower _ _ _ _ half more b.place)

  -- the exact result is below the least normal number where the pattern is
  pub tiny-is : 0 < f.exponent_bits → least_normal f < infinity f → not (fits f op x (magnitude_of f (least_normal f))) ≡ ltb t (least_normal f)
  unfolding fits
  tiny-is some ordered =
      let low : Lower f op x t = subst (λ (s : ℕ). Lower f op x s) b.lower (lower-found f op x some) in
      by_cases (dec_lt t (least_normal f))
      (λ h.
      ap not (lt-leb (side op x (magnitude_of f (least_normal f))) (limit (unit_of f) op x)
      (lt_of_lt_of_le (low.passed (omega arith)) (side-rising op x (rising≤ f h))))
      ∙ sym (lt-ltb t (least_normal f) h))
      (λ h.
      ap not (le-leb (side op x (magnitude_of f (least_normal f))) (limit (unit_of f) op x)
      (le_trans (side-rising op x (rising≤ f {s = least_normal f} {t = t} (omega arith))) low.reached))
      ∙ sym (le-ltb t (least_normal f) (omega arith)))

  -- the flags, r being the rounded pattern
  pub flags-are : 0 < f.exponent_bits → least_normal f < infinity f → (mode : Mode) (negative : Bool) (r : ℕ) → rounded_of f op mode negative x ≡ r
      → flags_of f op mode negative x
      ≡ cond (beyond || eqb r (infinity f)) overflow 0 + cond (ltb t (least_normal f) && (half || more)) underflow 0
      + cond (half || more) inexact 0
  unfolding flags_of is_overflow is_underflow
  flags-are some ordered mode negative r e = rw (b.reaches, e, inexact-is, tiny-is some ordered)
