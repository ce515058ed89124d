-- `plate::raw` meets its contract: the reply is the published numbers. Assumes nothing.
use Rattle.std.proofs.Common.{rules}
use Rattle.plate.proofs.Numbers.{raw-numbers}
use Rattle.plate.proofs.raw.Goals as goal

pub returns-in_err-try_from-clause-numbers : goal.returns-in_err-try_from-clause-numbers
returns-in_err-try_from-clause-numbers c = raw-numbers _ _ _ _ (search rules)

pub returns-clause-numbers : goal.returns-clause-numbers
returns-clause-numbers c = raw-numbers _ _ _ _ (search rules)
