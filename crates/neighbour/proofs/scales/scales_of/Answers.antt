-- `neighbour::scales::scales_of` meets its contract, by the operation. Assumes nothing.
use Rattle.neighbour.proofs.Halving.{reciprocal-scales, root-scales, inverse-scales}
use Rattle.neighbour.proofs.scales.scales_of.Goals as goal

pub returns-in-Reciprocal : goal.returns-in-Reciprocal
returns-in-Reciprocal g c = let laws = g.met.F.Format.laws in search reciprocal-scales

pub returns-in-Root : goal.returns-in-Root
returns-in-Root g c = let laws = g.met.F.Format.laws in search root-scales

pub returns-in-InverseRoot : goal.returns-in-InverseRoot
returns-in-InverseRoot g c = let laws = g.met.F.Format.laws in search inverse-scales
