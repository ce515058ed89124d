-- `centres::centre` meets its contract: the words are those of the map point plus the offsets. Assumes nothing.
use Rattle.centres.proofs.Centres.{centre-is}
use Rattle.centres.proofs.centre.Goals as goal

pub returns : goal.returns
returns c = search centre-is
