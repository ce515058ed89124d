-- `results::estimate::estimate_of` meets its contract: the raw answer is near the exact value. Assumes nothing.
use lib.Dec.{lit≤}
use Rattle.std.proofs.Common.{rules}
use Rattle.significand.specs.Width.{k32, t32}
use Rattle.significand.proofs.Accepted.{operand-between}
use Rattle.results.proofs.Results.{operand-is}
use Rattle.results.proofs.estimate.estimate_of.Goals as goal

pub returns : goal.returns
returns c = record { scales = search rules; operand = search operand-is; between = search (operand-between k32 t32 (lit≤ tt), operand-is); small = search rules }
