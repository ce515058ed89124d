-- `nine::lift` meets its contract: the start is not past the lifted z, and the nine heights raise it there. Assumes nothing.
use borrow.Author.Rules.{rules}
use Rattle.nine.proofs.Lifting.{lifted-is}
use Rattle.nine.proofs.lift.Goals as goal

pub returns : goal.returns
returns c = (search lifted-is, search rules)
