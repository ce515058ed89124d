-- `maps::unbiased` meets its contract: the word less the bias is that of the height. Assumes nothing.
use Rattle.maps.proofs.Heights.{unbiased-is}
use Rattle.maps.proofs.unbiased.Goals as goal

pub returns : goal.returns
returns c = search unbiased-is
