-- `floors::taken::reciprocal_with` meets its contract: the significand is t or t + 1. Assumes nothing.
use Rattle.floors.proofs.Tested.{reciprocal-taken-is}
use Rattle.floors.proofs.taken.reciprocal_with.Goals as goal

pub returns : goal.returns
returns c = search reciprocal-taken-is
