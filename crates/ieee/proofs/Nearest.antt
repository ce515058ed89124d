-- What rounding toward zero and to the nearest say of the exact result itself, over the format; and which pattern is the nearest, by the
-- midpoints beside it. Assumes nothing.
use mathlib.Core.Path.{◌≡◌}
use mathlib.Core.Bool.{Bool}
use mathlib.Core.Logic.{◌⊎◌, inl, inr, by_cases}
use Prim.Native.Nat.{ℕ, suc, ◌+◌, ◌*◌, ◌%◌, ◌≤◌, ◌<◌}
use native.Mathlib.Nat.{lt_of_mul-lt-mul_left, lt_of_lt_of_le, lt_of_le_of_lt}
use native.Mathlib.Decide.{dec_lt, ℕ_discrete}
use native.Mathlib.Omega.{arith}
use Rattle.kinds.specs.declared.Op.{Op}
use Rattle.kinds.specs.declared.Mode.TheVariants.{Nearest, TowardZero}
use Rattle.kinds.specs.Rounding.{exact, below, above, away, rounded_by}
use Rattle.kinds.proofs.Places.{says-place}
use Rattle.kinds.proofs.Ties as ties
use Rattle.ieee.specs.Format.{Format, unit_of, infinity, magnitude_of}
use Rattle.ieee.specs.Rounded.{side, limit, twice, lower_of, place_at, rounded_of}
use Rattle.ieee.proofs.Neighbours.{rising, side-rising, side-double, lower-is, lower-found}

module _ (f : Format) (some : 0 < f.exponent_bits) (op : Op) (negative : Bool) (x : ℕ) where
  -- toward zero it is never passed
  pub toward-zero-within : side op x (magnitude_of f (rounded_of f op TowardZero negative x)) ≤ limit (unit_of f) op x
  unfolding rounded_of
  toward-zero-within = rw (ties.toward_zero negative (lower_of f op x)) (lower-found f op x some).reached

  -- the lower neighbour and the next together are twice their midpoint
  abbrev pub together : ℕ
  together = magnitude_of f (lower_of f op x) + magnitude_of f (suc (lower_of f op x))

  -- past an exact result the midpoint is not reached
  past : side op x (magnitude_of f (lower_of f op x)) ≡ limit (unit_of f) op x → twice op * limit (unit_of f) op x ≤ side op x together
  past e = rw (← e, ← side-double op x (magnitude_of f (lower_of f op x))) (side-rising op x (omega (arith, rising f {s = lower_of f op x} {t = suc (lower_of f op x)} (omega arith))))

  -- to the nearest it is the lower neighbour only where the exact result is at most the midpoint,
  pub nearest-lower : rounded_of f op Nearest negative x ≡ lower_of f op x → twice op * limit (unit_of f) op x ≤ side op x together
  unfolding rounded_of place_at
  nearest-lower e = ties.nearest-lower _ _ _ _ _ _ past (lower-found f op x some).reached e

  -- the next only where it is at least the midpoint,
  pub nearest-next : rounded_of f op Nearest negative x ≡ suc (lower_of f op x) → side op x together ≤ twice op * limit (unit_of f) op x
  unfolding rounded_of place_at
  nearest-next e = ties.nearest-next _ _ _ _ _ _ past (lower-found f op x some).reached e

  -- and at the midpoint the even one
  pub nearest-tie : side op x (magnitude_of f (lower_of f op x)) < limit (unit_of f) op x → side op x together ≡ twice op * limit (unit_of f) op x
      → rounded_of f op Nearest negative x % 2 ≡ 0
  unfolding rounded_of place_at
  nearest-tie l e = ties.nearest-tie _ _ _ _ _ _ past (lower-found f op x some).reached l e

-- Which pattern is the nearest, by the midpoints on both sides of it. s and s + 1 are patterns, v and w their magnitudes, z that of s + 2
module _ (f : Format) (op : Op) (negative : Bool) (x s : ℕ) where
  abbrev v : ℕ
  v = magnitude_of f s

  abbrev w : ℕ
  w = magnitude_of f (suc s)

  abbrev z : ℕ
  z = magnitude_of f (suc (suc s))

  abbrev l : ℕ
  l = limit (unit_of f) op x

  -- where twice a number is past a sum that twice the exact result does not reach, so is the number,
  double-past : (a b : ℕ) → b ≤ 2 * a → twice op * l < side op x b → l < side op x a
  double-past a b h k = lt_of_mul-lt-mul_left (twice op) (lt_of_lt_of_le k (rw (← side-double op x a) (side-rising op x h)))

  double-reached : (a b : ℕ) → 2 * a ≤ b → side op x b < twice op * l → side op x a < l
  double-reached a b h k = lt_of_mul-lt-mul_left (twice op) (lt_of_le_of_lt (rw (← side-double op x a) (side-rising op x h)) k)

  -- the exact result is s + 1 or above it, and below the midpoint with the next
  nearest-reached : suc s < infinity f → side op x w ≤ l → twice op * l < side op x (w + z) → rounded_of f op Nearest negative x ≡ suc s
  unfolding rounded_of rounded_by place_at away
  nearest-reached i h k =
      let past = double-past z (w + z) (omega (arith, rising f {s = suc s} {t = suc (suc s)} (omega arith))) k in
      rw (lower-is f op x (suc s) (record { finite = i; reached = h; passed = λ j. past }))
      (by_cases (ℕ_discrete (side op x w) l)
      (λ e. rw (says-place (side op x w) l (side op x (w + z)) (twice op * l) exact e))
      (λ e. rw (says-place (side op x w) l (side op x (w + z)) (twice op * l) below (omega arith, k))))

  -- it is below s + 1, and above the midpoint with the one before
  nearest-passed : suc s < infinity f → l < side op x w → side op x (v + w) < twice op * l → rounded_of f op Nearest negative x ≡ suc s
  unfolding rounded_of rounded_by place_at away
  nearest-passed i h k =
      let reached = double-reached v (v + w) (omega (arith, rising f {s = s} {t = suc s} (omega arith))) k in
      rw (lower-is f op x s (record { finite = omega arith; reached = omega arith; passed = λ j. h }))
      (rw (says-place (side op x v) l (side op x (v + w)) (twice op * l) above (reached, k)))

  -- both in one
  pub nearest-is : suc s < infinity f → twice op * l < side op x (w + z) → (side op x w ≤ l) ⊎ (side op x (v + w) < twice op * l)
      → rounded_of f op Nearest negative x ≡ suc s
  nearest-is i k (inl h) = nearest-reached i h k
  nearest-is i k (inr h) = by_cases (dec_lt l (side op x w)) (λ j. nearest-passed i j h) (λ j. nearest-reached i (omega arith) k)
