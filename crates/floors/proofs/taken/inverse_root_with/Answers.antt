-- `floors::taken::inverse_root_with` meets its contract: the significand is t or t + 1. Assumes nothing.
use Rattle.floors.proofs.Tested.{inverse-taken-is}
use Rattle.floors.proofs.taken.inverse_root_with.Goals as goal

pub returns : goal.returns
returns g c = search inverse-taken-is
