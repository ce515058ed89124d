-- `offset::settled` meets its contract: the sign of the difference is the test. Assumes nothing.
use Rattle.offset.proofs.Settling.{settled-so}
use Rattle.offset.proofs.settled.Goals as goal

pub returns : goal.returns
returns c = search settled-so
