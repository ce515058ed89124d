-- `raw::reciprocal_row` meets its contract: R has 9 bits. Assumes nothing.
use Rattle.raw.proofs.Answers.{scaled_fits}
use Rattle.raw.proofs.reciprocal_row.Goals as goal

pub overflow_mul-result : goal.overflow_mul-result
overflow_mul-result c = search scaled_fits
