-- `floors::root` meets its contract: the floor is the number tried or the one before. Assumes nothing.
use Rattle.floors.proofs.Counted.{root-floor}
use Rattle.floors.proofs.root.Goals as goal

pub returns : goal.returns
returns c = root-floor c.args.y c.args.g c.requires.0 c.args.p c.requires.1 c.requires.3
