-- The directed roundings of a magnitude whose place is found by two comparisons. Assumes nothing.
use mathlib.Core.Path.{◌≡◌, refl}
use mathlib.Core.Bool.{Bool, true, false, cond, not}
use Prim.Native.Nat.{ℕ, suc}
use borrow.Author.Tests.{eq-eqb, ne_eqb}
use Rattle.kinds.specs.declared.Mode.{Mode}
use Rattle.kinds.specs.declared.Mode.TheVariants.{Up, Down}
use Rattle.kinds.specs.Rounding.{below, half, above, away, place_by, rounded_by}

-- off the lower neighbour, down goes away from zero where the number is negative, and up where it is not
away-down : (negative odd b c : Bool) → away Down negative odd (cond b above (cond c half below)) ≡ negative
unfolding away
away-down negative odd true c = refl
away-down negative odd false true = refl
away-down negative odd false false = refl

away-up : (negative odd b c : Bool) → away Up negative odd (cond b above (cond c half below)) ≡ not negative
unfolding away
away-up negative odd true c = refl
away-up negative odd false true = refl
away-up negative odd false false = refl

module _ (negative : Bool) (t low limit middle doubled : ℕ) where
  -- at the lower neighbour every rounding takes it
  pub rounded-exact : (mode : Mode) → low ≡ limit → rounded_by mode negative t (place_by low limit middle doubled) ≡ t
  unfolding rounded_by place_by away
  rounded-exact mode e = rw (eq-eqb low limit e)

  pub rounded-down : (low ≡ limit → ⊥) → rounded_by Down negative t (place_by low limit middle doubled) ≡ cond negative (suc t) t
  unfolding rounded_by place_by
  rounded-down h = rw (ne_eqb low limit h, away-down)

  pub rounded-up : (low ≡ limit → ⊥) → rounded_by Up negative t (place_by low limit middle doubled) ≡ cond (not negative) (suc t) t
  unfolding rounded_by place_by
  rounded-up h = rw (ne_eqb low limit h, away-up)
