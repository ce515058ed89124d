-- `filling::fill` meets its contract. Assumes nothing.
use Rattle.std.proofs.Common.{rules}
use Rattle.filling.proofs.Filling.{filled_more, filled}
use Rattle.filling.proofs.fill.Goals as goal

pub loop-n-preserved : goal.loop-n-preserved
loop-n-preserved c = (search rules, search filled_more)

pub returns : goal.returns
returns c = search filled
