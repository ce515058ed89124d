-- `floors::taken::root_by` meets its contract. Assumes nothing.
use Rattle.floors.proofs.Tested.{root-carried}
use Rattle.floors.proofs.taken.root_by.Goals as goal

pub returns : goal.returns
returns c = search root-carried
