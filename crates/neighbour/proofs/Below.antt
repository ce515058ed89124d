-- A floor with a guard bit gives the pattern below the exact result. Assumes nothing.
use mathlib.Core.Path.{◌≡◌}
use mathlib.Core.Bool.{Bool}
use Prim.Native.Nat.{ℕ, ◌<◌}
use Rattle.kinds.specs.declared.Op.{Op}
use Rattle.ieee.specs.Format.{Format}
use Rattle.ieee.specs.Guarded.{Guarded, Below}
use Rattle.ieee.proofs.Guarded.{guarded-below}
use Rattle.ieee.proofs.Neighbours.{infinity-pos}
use Rattle.neighbour.specs.Neighbour.{neighbour_of}
use Rattle.neighbour.specs.declared.Neighbour.{Neighbour}

-- the floor with its guard bit gives the neighbour
pub neighbour-below : (f : Format) (op : Op) (x q k : ℕ) (more : Bool) (n : Neighbour) → 0 < f.exponent_bits → 0 < x → Guarded f op x q more k
    → n ≡ neighbour_of f q more k → Below f op x n.pattern n.half n.more n.beyond
unfolding neighbour_of
neighbour-below f op x q k more n some pos g e = rw e (guarded-below f op x q more k pos g (infinity-pos f some))
