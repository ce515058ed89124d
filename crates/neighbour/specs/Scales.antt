-- The scale and the parity of an operand's exponent, as code returns them. Assumes nothing.
use Rattle.std.specs.Prelude.{◌≡◌, ℕ, suc, ◌^◌, ◌≤◌, ◌<◌}
use Rattle.kinds.specs.declared.Op.{Op}
use Rattle.kinds.specs.declared.Op.TheVariants.{Reciprocal}
use Rattle.ieee.specs.Format.{Format}
use Rattle.ieee.specs.Floor.{scale_of, parity_of}
use Rattle.neighbour.specs.declared.scales.Scales.{Scales}

-- the parity is 0 or 1, and 0 for the reciprocal
pub record ScalesOf (f : Format) (op : Op) (j : ℕ) (r : Scales) : Type 0 where
  pub scale-is : r.scale ≡ scale_of f op j
  pub parity-is : r.parity ≡ parity_of f op j
  pub one_bit : r.parity ≤ 1
  pub even : op ≡ Reciprocal → r.parity ≡ 0
  pub small : r.scale < 2 ^ suc f.exponent_bits
