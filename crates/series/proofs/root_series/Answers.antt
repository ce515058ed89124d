-- `series::root_series` meets its contract. Assumes nothing.
use native.Mathlib.Omega.{arith}
use Rattle.kinds.specs.declared.Op.TheVariants.{Root}
use Rattle.significand.specs.Width.{k32}
use Rattle.series.proofs.Steps.{step_fits}
use Rattle.series.proofs.Sums.{sum_x, not_negative, unsigned-fits, series-is, series-small}
use Rattle.series.proofs.root_series.Goals as goal

pub overflow_add-sum-2 : goal.overflow_add-sum-2
overflow_add-sum-2 c = search (step_fits k32 (sum_x Root) (omega arith) tt)

pub overflow_cast-result : goal.overflow_cast-result
overflow_cast-result c = (search (not_negative Root), search (unsigned-fits Root))

pub returns : goal.returns
returns c = (search (series-is Root), search (series-small Root))
