-- `ending::put_front` meets its contract: five runs, each right behind the one before, are the first 14 bytes. Assumes nothing.
use Rattle.ending.proofs.Putting.{front-put}
use Rattle.ending.proofs.put_front.Goals as goal

pub returns : goal.returns
returns c = search front-put
