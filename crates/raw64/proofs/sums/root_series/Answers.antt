-- `raw64::sums::root_series` meets its contract. Assumes nothing.
use lib.Dec.{lit<}
use Rattle.kinds.specs.declared.Op.TheVariants.{Root}
use Rattle.raw64.proofs.Joined.{rest-positive, rest-unsigned, rest-room, series-is, series-small}
use Rattle.raw64.proofs.sums.root_series.Goals as goal

pub overflow_cast-result-2 : goal.overflow_cast-result-2
overflow_cast-result-2 c = (search (rest-positive Root), search (rest-unsigned Root))

pub overflow_sub-result : goal.overflow_sub-result
overflow_sub-result c = search (lit<, rest-room)

pub returns : goal.returns
returns c = (search (series-is Root), search (series-small Root))
