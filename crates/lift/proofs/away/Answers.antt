-- `lift::away` meets its contract: a number near a place, less the place, is a word's. Assumes nothing.
use Rattle.lift.proofs.Records.{away-is, away-most}
use Rattle.lift.proofs.away.Goals as goal

pub returns : goal.returns
returns c = (search away-is, search away-most)
