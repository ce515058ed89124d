-- A raw answer as code hands it on. Assumes nothing.
use Rattle.std.specs.Prelude.{◌^◌, ◌<◌}
use Rattle.kinds.specs.declared.Op.{Op}
use Rattle.significand.specs.Width.{k32, t32, Operand}
use Rattle.significand.specs.Distance.{Between}
use Rattle.ieee.specs.Format.{binary32}
use Rattle.pattern.specs.declared.operand.Scaled.{Scaled}
use Rattle.neighbour.specs.Scales.{ScalesOf}
use Rattle.results.specs.declared.estimate.Estimate.{Estimate}

-- the scale and the parity of the operand's exponent, and how near the answer is to the exact value with that parity
pub record EstimateOf (op : Op) (x : Scaled) (r : Estimate) : Type 0 where
  pub scales : ScalesOf binary32 op x.exponent r.scales
  pub operand : Operand k32 t32 op x.significand r.scales.parity
  pub between : Between op k32 t32 x.significand r.scales.parity r.answer
  pub small : r.answer < 2 ^ 32
