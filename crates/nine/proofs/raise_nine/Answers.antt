-- `nine::raise_nine` meets its contract: one row after the other. Assumes nothing.
use borrow.Author.Rules.{rules}
use Rattle.nine.proofs.Lifting.{nine-raised}
use Rattle.nine.proofs.raise_nine.Goals as goal

pub returns : goal.returns
returns c = (search nine-raised, search rules)
