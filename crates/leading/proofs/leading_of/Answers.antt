-- `leading::leading_of` meets its contract: the shift brings the highest bit to the top. Assumes nothing.
use Rattle.leading.proofs.Significands.{leading-is}
use Rattle.leading.proofs.leading_of.Goals as goal

pub returns : goal.returns
returns c = search leading-is
