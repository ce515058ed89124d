-- The rounded pattern and its flags, put together from the parts that code works out. Assumes nothing.
use mathlib.Core.Path.{◌≡◌}
use mathlib.Core.Bool.{Bool, cond, ◌&&◌, ◌||◌}
use Prim.Native.Nat.{ℕ, ◌+◌, ◌*◌, ◌%◌, ◌<◌}
use lib.Dec.{eqb, ltb}
use Rattle.kinds.specs.declared.Mode.{Mode}
use Rattle.kinds.specs.Rounding.{away}
use Rattle.kinds.specs.Guard.{place_of}
use Rattle.kinds.specs.Flag.{overflow, underflow, inexact}
use Rattle.ieee.specs.Format.{Format, sign_bit, least_normal, infinity as infinity_of}
use Rattle.ieee.specs.Answer.{with_sign_bit}
use Rattle.pattern.specs.Answer.{Answered}
use Rattle.neighbour.specs.declared.Neighbour.{Neighbour}
use Rattle.rounding.specs.Rounded.{rounded_from}

module _ (f : Format) (mode : Mode) (s : ℕ) (n : Neighbour) where
  pub assembled : (far : Bool) (t bits over under inex infinity normal : ℕ)
      → infinity ≡ infinity_of f
      → normal ≡ least_normal f
      → far ≡ away mode (eqb s 1) (eqb (n.pattern % 2) 1) (place_of n.half n.more)
      → t ≡ cond far (n.pattern + 1) n.pattern
      → bits ≡ with_sign_bit f s t
      → bits < 2 * sign_bit f
      → over ≡ cond (n.beyond || eqb t infinity) overflow 0
      → under ≡ cond (ltb n.pattern normal && (n.half || n.more)) underflow 0
      → inex ≡ cond (n.half || n.more) inexact 0
      → Answered f (rounded_from f mode s n) (record { bits = bits; flags = over + under + inex })
  unfolding rounded_from
  assembled far t bits over under inex infinity normal at an ef et eb small eo eu ei =
      record { bits_are = cc; flags-are = cc; pattern = small }
