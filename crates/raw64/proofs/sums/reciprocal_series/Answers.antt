-- `raw64::sums::reciprocal_series` meets its contract. Assumes nothing.
use Rattle.kinds.specs.declared.Op.TheVariants.{Reciprocal}
use Rattle.raw64.proofs.Joined.{series-is, series-small}
use Rattle.raw64.proofs.sums.reciprocal_series.Goals as goal

pub returns : goal.returns
returns c = (search (series-is Reciprocal), search (series-small Reciprocal))
