-- `raw64::sums::inverse_root_series` meets its contract. Assumes nothing.
use Rattle.kinds.specs.declared.Op.TheVariants.{InverseRoot}
use Rattle.raw64.proofs.Joined.{rest-positive, rest-unsigned, series-is, series-small}
use Rattle.raw64.proofs.sums.inverse_root_series.Goals as goal

pub overflow_cast-result-2 : goal.overflow_cast-result-2
overflow_cast-result-2 c = (search (rest-positive InverseRoot), search (rest-unsigned InverseRoot))

pub returns : goal.returns
returns c = (search (series-is InverseRoot), search (series-small InverseRoot))
