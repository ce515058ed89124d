-- `floors::reciprocal` meets its contract: the floor is the number tried, the one before or the next. Assumes nothing.
use Rattle.floors.proofs.Counted.{reciprocal-floor}
use Rattle.floors.proofs.reciprocal.Goals as goal

pub returns : goal.returns
returns c = reciprocal-floor c.args.y c.args.g c.requires.0 c.requires.2
