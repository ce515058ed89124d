-- `raising::raise_row` meets its contract: one height after the other. Assumes nothing.
use borrow.Author.Rules.{rules}
use Rattle.raising.proofs.Steps.{row-raised}
use Rattle.raising.proofs.raise_row.Goals as goal

pub returns : goal.returns
returns c = (search row-raised, search rules)
