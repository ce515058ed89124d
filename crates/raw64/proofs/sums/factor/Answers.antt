-- `raw64::sums::factor` meets its contract. Assumes nothing.
use Rattle.raw64.proofs.Parts.{factor-is, factor-least, factor-most}
use Rattle.raw64.proofs.sums.factor.Goals as goal

pub returns : goal.returns
returns c = (search factor-is, search factor-least, search factor-most)
