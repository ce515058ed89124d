-- `plate::record` meets its contract: the reply is the published numbers. Assumes nothing.
use Rattle.std.proofs.Common.{rules}
use Rattle.plate.proofs.Records.{record-numbers}
use Rattle.plate.proofs.record.Goals as goal

pub returns-in_err-r-clause-numbers : goal.returns-in_err-r-clause-numbers
returns-in_err-r-clause-numbers c = record-numbers _ _ _ (search rules)

pub returns-clause-value : goal.returns-clause-value
returns-clause-value c = search rules

pub returns-clause-numbers : goal.returns-clause-numbers
returns-clause-numbers c = record-numbers _ _ _ (returns-clause-value c)
