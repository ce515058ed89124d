-- `raising::nudge` meets its contract: a step by one is not past the lifted z. Assumes nothing.
use borrow.Author.Rules.{rules}
use Rattle.raising.proofs.Steps.{nudges}
use Rattle.raising.proofs.nudge.Goals as goal

pub returns-then-touches : goal.returns-then-touches
returns-then-touches c = (search nudges, search rules)
