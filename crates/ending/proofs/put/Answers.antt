-- `ending::put` meets its contract: front, radius and rounding are the trailer, whatever its kind. Assumes nothing.
use Rattle.ending.proofs.Putting.{trailer-put}
use Rattle.ending.proofs.put.Goals as goal

pub returns : goal.returns
returns c = search trailer-put
