-- The significand that a rounding takes, as code returns it. Assumes nothing.
use Rattle.std.specs.Prelude.{◌≡◌, ℕ, ◌+◌, Bool, cond}
use Rattle.kinds.specs.declared.Op.{Op}
use Rattle.kinds.specs.declared.Mode.{Mode}
use Rattle.kinds.specs.declared.Mode.TheVariants.{Nearest, Up, Down, TowardZero}
use Rattle.ieee.specs.Floor.{Floored, taken_by}
use Rattle.floors.specs.declared.taken.Taken.{Taken}

-- the one that it takes of the floor of the target x, which is not worked out
pub record TakenOf (op : Op) (y x rest : ℕ) (r : Taken) : Type 0 where
  pub floor : ℕ
  pub floored : Floored op y x floor r.more
  pub is : r.significand ≡ taken_by rest floor r.more

-- what a rounding carries into the floor of a number that is not negative, before it is halved
abbrev pub carried_by : Mode → Bool → ℕ
carried_by Nearest more = 1
carried_by Up more = 1 + cond more 1 0
carried_by Down more = 0
carried_by TowardZero more = 0
