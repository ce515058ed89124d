-- `nine::squares_of` meets its contract: the sign tells which side is near. Assumes nothing.
use Rattle.nine.proofs.Distances.{squares-back, squares-on, small-back, small-on}
use Rattle.nine.proofs.squares_of.Goals as goal

pub returns-then-offset : goal.returns-then-offset
returns-then-offset c = (search squares-back, search small-back)

pub returns-else-offset : goal.returns-else-offset
returns-else-offset c = (search squares-on, search small-on)
