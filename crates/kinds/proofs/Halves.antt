-- What each rounding takes, by the two bits that say a place, and how far it goes. Assumes nothing.
use mathlib.Core.Path.{◌≡◌, refl}
use mathlib.Core.Bool.{Bool, true, false, cond, not}
use Prim.Native.Nat.{ℕ, suc, ◌%◌}
use lib.Dec.{eqb}
use Rattle.kinds.specs.declared.Mode.TheVariants.{Nearest, Up, Down, TowardZero}
use Rattle.kinds.specs.Rounding.{away, rounded_by}
use Rattle.kinds.specs.Guard.{place_of, rest_of}

module _ (t : ℕ) where
  pub up-stays : (a b : Bool) → rounded_by Up true t (place_of a b) ≡ t
  unfolding rounded_by away
  up-stays false false = refl
  up-stays false true = refl
  up-stays true false = refl
  up-stays true true = refl

  pub down-stays : (a b : Bool) → rounded_by Down false t (place_of a b) ≡ t
  unfolding rounded_by away
  down-stays false false = refl
  down-stays false true = refl
  down-stays true false = refl
  down-stays true true = refl

  pub down-as-up : (a b : Bool) → rounded_by Up false t (place_of a b) ≡ rounded_by Down true t (place_of a b)
  unfolding rounded_by away
  down-as-up false false = refl
  down-as-up false true = refl
  down-as-up true false = refl
  down-as-up true true = refl

  pub up-exact : t ≡ rounded_by Up false t (place_of false false)
  unfolding rounded_by away
  up-exact = refl

  pub up-below : suc t ≡ rounded_by Up false t (place_of false true)
  unfolding rounded_by away
  up-below = refl

  pub up-odd : (b : Bool) → suc t ≡ rounded_by Up false t (place_of true b)
  unfolding rounded_by away
  up-odd false = refl
  up-odd true = refl

  pub nearest-even : (negative b : Bool) → t ≡ rounded_by Nearest negative t (place_of false b)
  unfolding rounded_by away
  nearest-even negative false = refl
  nearest-even negative true = refl

  pub nearest-above : (negative : Bool) → suc t ≡ rounded_by Nearest negative t (place_of true true)
  unfolding rounded_by away
  nearest-above negative = refl

  pub nearest-half : (negative : Bool) → cond (eqb (t % 2) 1) (suc t) t ≡ rounded_by Nearest negative t (place_of true false)
  unfolding rounded_by away
  nearest-half negative = refl

-- how far each goes
pub nearest-rest : (b : Bool) → 1 ≡ rest_of Nearest b
unfolding rest_of
nearest-rest b = refl

pub up_rest : (b : Bool) → cond b 2 0 ≡ rest_of Up b
unfolding rest_of
up_rest true = refl
up_rest false = refl

pub down-rest : (b : Bool) → cond (not b) 2 0 ≡ rest_of Down b
unfolding rest_of
down-rest true = refl
down-rest false = refl

pub zero_rest : (b : Bool) → 2 ≡ rest_of TowardZero b
unfolding rest_of
zero_rest b = refl
