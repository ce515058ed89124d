-- `offset::settled_whole` meets its contract: the sign of the difference is the test. Assumes nothing.
use Rattle.offset.proofs.Settling.{whole-so}
use Rattle.offset.proofs.settled_whole.Goals as goal

pub returns : goal.returns
returns c = search whole-so
