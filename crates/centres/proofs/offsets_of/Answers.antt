-- `centres::offsets_of` meets its contract: each component is in its range. Assumes nothing.
use borrow.Author.Rules.{rules}
use Rattle.centres.proofs.Centres.{offsets_are}
use Rattle.centres.proofs.offsets_of.Goals as goal

pub returns : goal.returns
returns c = (search offsets_are, search rules)
