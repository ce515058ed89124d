-- What a rounding does with the two bits that say a place, and that its result is at most the next neighbour. Assumes nothing.
use mathlib.Core.Path.{◌≡◌, refl}
use mathlib.Core.Logic.{◌⊎◌, inl, inr, ⊎_elim}
use mathlib.Core.Bool.{Bool, true, false, cond, not, ◌&&◌, ◌||◌}
use Prim.Native.Nat.{ℕ, suc, ◌%◌, ◌≤◌}
use native.Mathlib.Omega.{arith}
use lib.Dec.{eqb}
use Rattle.kinds.specs.declared.Mode.{Mode}
use Rattle.kinds.specs.declared.Mode.TheVariants.{Nearest, Up, Down, TowardZero}
use Rattle.kinds.specs.Rounding.{Place, away, rounded_by}
use Rattle.kinds.specs.Guard.{place_of}

-- the result is the lower neighbour or the next
pub taken_of : (mode : Mode) (negative : Bool) (t : ℕ) (place : Place)
    → (rounded_by mode negative t place ≡ t) ⊎ (rounded_by mode negative t place ≡ suc t)
unfolding rounded_by
taken_of mode negative t place = go (away mode negative (eqb (t % 2) 1) place)
  where
    go : (b : Bool) → (cond b (suc t) t ≡ t) ⊎ (cond b (suc t) t ≡ suc t)
    go true = inr refl
    go false = inl refl

-- so it is at most the next
pub next-most : (mode : Mode) (negative : Bool) (t : ℕ) (place : Place) → rounded_by mode negative t place ≤ suc t
next-most mode negative t place = ⊎_elim (λ e. omega arith) (λ e. omega arith) (taken_of mode negative t place)

-- each rounding on the two bits
module _ (negative odd : Bool) where
  to-nearest : (half more : Bool) → half && (more || odd) ≡ away Nearest negative odd (place_of half more)
  unfolding away
  to-nearest false false = refl
  to-nearest false true = refl
  to-nearest true false = refl
  to-nearest true true = refl

  upward : (half more : Bool) → (half || more) && not negative ≡ away Up negative odd (place_of half more)
  unfolding away
  upward false false = refl
  upward false true = refl
  upward true false = refl
  upward true true = refl

  downward : (half more : Bool) → (half || more) && negative ≡ away Down negative odd (place_of half more)
  unfolding away
  downward false false = refl
  downward false true = refl
  downward true false = refl
  downward true true = refl

  inward : (half more : Bool) → false ≡ away TowardZero negative odd (place_of half more)
  unfolding away
  inward false false = refl
  inward false true = refl
  inward true false = refl
  inward true true = refl

  module _ (mode : Mode) (half more : Bool) where
    pub nearest-is : mode ≡ Nearest → half && (more || odd) ≡ away mode negative odd (place_of half more)
    nearest-is e = rw e (to-nearest half more)

    pub up_is : mode ≡ Up → (half || more) && not negative ≡ away mode negative odd (place_of half more)
    up_is e = rw e (upward half more)

    pub down_is : mode ≡ Down → (half || more) && negative ≡ away mode negative odd (place_of half more)
    down_is e = rw e (downward half more)

    pub toward-zero-is : mode ≡ TowardZero → false ≡ away mode negative odd (place_of half more)
    toward-zero-is e = rw e (inward half more)
