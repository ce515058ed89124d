-- The place of an exact magnitude from the order of the four numbers that decide it, and what two bits that say it tell. Assumes nothing.
use mathlib.Core.Path.{◌≡◌, refl, sym, ap, subst, ◌∙◌}
use mathlib.Core.Logic.{◌↔◌, by_cases}
use mathlib.Core.Bool.{Bool, true, false, cond, not, ◌||◌}
use Prim.Native.Nat.{ℕ, suc, ◌%◌, ◌≤◌}
use native.Mathlib.Decide.{dec_lt}
use native.Mathlib.Omega.{arith}
use borrow.Author.Tests.{lt-ltb, le-ltb, eq-eqb, ne_eqb, eqb-true}
use lib.Dec.{eqb, ltb}
use Rattle.kinds.specs.declared.Mode.{Mode}
use Rattle.kinds.specs.Rounding.{Place, exact, below, half, above, away, place_by, Says, rounded_by}
use Rattle.kinds.specs.Guard.{place_of}

-- whether a place is the lower neighbour
at_lower : Place → Bool
at_lower exact = true
at_lower below = false
at_lower half = false
at_lower above = false

at-lower-of : (h m : Bool) → not (at_lower (place_of h m)) ≡ h || m
unfolding at_lower
at-lower-of false false = refl
at-lower-of false true = refl
at-lower-of true false = refl
at-lower-of true true = refl

module _ (low limit middle doubled : ℕ) where
  -- what a place says is what makes it the place,
  pub says-place : (place : Place) → Says place low limit middle doubled → place_by low limit middle doubled ≡ place
  unfolding place_by
  says-place exact e = simp (eq-eqb low limit e)
  says-place below (l, h) =
      simp (ne_eqb low limit (λ p. omega arith), le-ltb middle doubled (omega arith), ne_eqb middle doubled (λ p. omega arith))
  says-place half (l, e) = simp (ne_eqb low limit (λ p. omega arith), le-ltb middle doubled (omega arith), eq-eqb middle doubled e)
  says-place above (l, h) = simp (ne_eqb low limit (λ p. omega arith), lt-ltb middle doubled h)

  module _ (reached : low ≤ limit) where
    -- and holds of it, where the lower neighbour is not above the exact value
    pub place-says : Says (place_by low limit middle doubled) low limit middle doubled
    place-says =
        by_cases (dec_lt low limit)
        (λ l.
        by_cases (dec_lt middle doubled)
        (λ h. rw (says-place above (l, h)) (l, h))
        (λ h.
        by_cases (dec_lt doubled middle)
        (λ k. rw (says-place below (l, k)) (l, k))
        (λ k. rw (says-place half (l, omega arith)) (l, omega arith))))
        (λ l. rw (says-place exact (omega arith)) (omega arith))

    -- so each place is found exactly where what it says holds
    pub place-where : (place : Place) → (place_by low limit middle doubled ≡ place) ↔ Says place low limit middle doubled
    place-where place = (λ e. subst (λ (p : Place). Says p low limit middle doubled) e place-says, says-place place)

  -- the midpoint is the place only where it is met
  pub half-met : place_by low limit middle doubled ≡ half → middle ≡ doubled
  unfolding place_by
  half-met e = eqb-true middle doubled (third (eqb low limit) (ltb middle doubled) (eqb middle doubled) e)
    where
      third : (a b c : Bool) → cond a exact (cond b above (cond c half below)) ≡ half → c ≡ true
      third a b true e = refl
      third true b false e = cc
      third false true false e = cc
      third false false false e = cc

  at-lower-by : at_lower (place_by low limit middle doubled) ≡ eqb low limit
  unfolding place_by at_lower
  at-lower-by = go (eqb low limit) (ltb middle doubled) (eqb middle doubled)
    where
      go : (a b c : Bool) → at_lower (cond a exact (cond b above (cond c half below))) ≡ a
      go true b c = refl
      go false true c = refl
      go false false true = refl
      go false false false = refl

  -- a place off the lower neighbour has one of its two bits set
  pub off-lower : (h m : Bool) → place_by low limit middle doubled ≡ place_of h m → not (eqb low limit) ≡ h || m
  off-lower h m e = ap not (sym at-lower-by) ∙ ap (λ (p : Place). not (at_lower p)) e ∙ at-lower-of h m

-- the neighbour that is taken, by `away`
pub taken_is : (mode : Mode) (negative : Bool) (t : ℕ) (place : Place)
    → rounded_by mode negative t place ≡ cond (away mode negative (eqb (t % 2) 1) place) (suc t) t
unfolding rounded_by
taken_is mode negative t place = refl
