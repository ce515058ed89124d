-- `floors64::settled` meets its contract. Assumes nothing.
use Rattle.floors64.proofs.Tried.{settled-below, settled_here}
use Rattle.floors64.proofs.settled.Goals as goal

pub returns-then-apart-above : goal.returns-then-apart-above
returns-then-apart-above c = search settled-below

pub returns : goal.returns
returns c = search settled_here
