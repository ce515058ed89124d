-- `floors64::reciprocal` meets its contract: the number tried is the floor or the next. Assumes nothing.
use Rattle.floors64.proofs.Tried.{reciprocal-floor}
use Rattle.floors64.proofs.reciprocal.Goals as goal

pub returns : goal.returns
returns c = search reciprocal-floor
