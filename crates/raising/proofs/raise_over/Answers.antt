-- `raising::raise_over` meets its contract: the test tells whether the height lifts z. Assumes nothing.
use borrow.Author.Rules.{rules}
use Rattle.raising.proofs.Steps.{raises, stays, raised-small, raised-fits}
use Rattle.raising.proofs.raise_over.Goals as goal

pub overflow_add-result : goal.overflow_add-result
overflow_add-result c = search raised-fits

pub returns-then-touches : goal.returns-then-touches
returns-then-touches c = (search raises, search raised-small)

pub returns-else-touches : goal.returns-else-touches
returns-else-touches c = (search stays, search rules)
