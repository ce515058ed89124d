-- `ending::put_rounding` meets its contract: a law for a rounding and one for none. Assumes nothing.
use Rattle.ending.proofs.Putting.{rounding-none}
use Rattle.ending.proofs.put_rounding.Goals as goal

pub returns-else-rounded : goal.returns-else-rounded
returns-else-rounded c = search rounding-none
