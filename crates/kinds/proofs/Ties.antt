-- Rounding to nearest: of two neighbours the one that the exact value is not farther from, and at the midpoint the even one; rounding
-- toward zero: never the farther one. Assumes nothing.
use mathlib.Core.Path.{◌≡◌, refl}
use mathlib.Core.Bool.{Bool}
use mathlib.Core.Logic.{by_cases}
use Prim.Native.Nat.{ℕ, suc, ◌%◌, ◌≤◌, ◌<◌}
use native.Mathlib.Decide.{ℕ_discrete}
use native.Mathlib.Omega.{arith}
use borrow.Author.Tests.{eq-eqb, ne_eqb}
use Rattle.kinds.specs.declared.Mode.TheVariants.{Nearest, TowardZero}
use Rattle.kinds.specs.Rounding.{Place, exact, below, half, above, away, place_by, Says, rounded_by}
use Rattle.kinds.proofs.Places.{place-says, says-place}

-- toward zero the lower neighbour is taken, whatever the place
pub toward_zero : (negative : Bool) (t : ℕ) (place : Place) → rounded_by TowardZero negative t place ≡ t
unfolding rounded_by away
toward_zero negative t exact = refl
toward_zero negative t below = refl
toward_zero negative t half = refl
toward_zero negative t above = refl

module _ (negative : Bool) (t : ℕ) where
  -- at the midpoint the result is even
  half-even : rounded_by Nearest negative t half % 2 ≡ 0
  unfolding rounded_by away
  half-even =
      by_cases (ℕ_discrete (t % 2) 1) (λ e. rw (eq-eqb (t % 2) 1 e) (omega arith)) (λ h. rw (ne_eqb (t % 2) 1 h) (omega arith))

  -- the lower neighbour is taken at a place that is not above the midpoint, the next at one that is not below it
  module _ (low limit middle doubled : ℕ) (past : low ≡ limit → doubled ≤ middle) where
    taken-lower : (place : Place) → Says place low limit middle doubled → rounded_by Nearest negative t place ≡ t → doubled ≤ middle
    unfolding rounded_by away
    taken-lower exact s e = past s
    taken-lower below s e = omega (arith, s)
    taken-lower half s e = omega (arith, s)
    taken-lower above s e = omega arith

    taken_next : (place : Place) → Says place low limit middle doubled → rounded_by Nearest negative t place ≡ suc t → middle ≤ doubled
    unfolding rounded_by away
    taken_next exact s e = omega arith
    taken_next below s e = omega arith
    taken_next half s e = omega (arith, s)
    taken_next above s e = omega (arith, s)

    module _ (reached : low ≤ limit) where
      -- the lower neighbour is the nearest only where the exact value is at most the midpoint,
      pub nearest-lower : rounded_by Nearest negative t (place_by low limit middle doubled) ≡ t → doubled ≤ middle
      nearest-lower = taken-lower (place_by low limit middle doubled) (place-says low limit middle doubled reached)

      -- the next only where it is at least the midpoint,
      pub nearest-next : rounded_by Nearest negative t (place_by low limit middle doubled) ≡ suc t → middle ≤ doubled
      nearest-next = taken_next (place_by low limit middle doubled) (place-says low limit middle doubled reached)

      -- and at the midpoint the even one
      pub nearest-tie : low < limit → middle ≡ doubled → rounded_by Nearest negative t (place_by low limit middle doubled) % 2 ≡ 0
      nearest-tie l e = rw (says-place low limit middle doubled half (l, e)) half-even
