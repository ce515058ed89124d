-- `series::reciprocal_series` meets its contract. Assumes nothing.
use native.Mathlib.Omega.{arith}
use Rattle.kinds.specs.declared.Op.TheVariants.{Reciprocal}
use Rattle.significand.specs.Width.{k32}
use Rattle.series.proofs.Steps.{step_fits}
use Rattle.series.proofs.Sums.{sum_x, not_negative, unsigned-fits, series-is, series-small}
use Rattle.series.proofs.reciprocal_series.Goals as goal

pub overflow_sub-sum : goal.overflow_sub-sum
overflow_sub-sum c = search (step_fits k32 (sum_x Reciprocal) (omega arith) tt)

pub overflow_cast-result : goal.overflow_cast-result
overflow_cast-result c = (search (not_negative Reciprocal), search (unsigned-fits Reciprocal))

pub returns : goal.returns
returns c = (search (series-is Reciprocal), search (series-small Reciprocal))
