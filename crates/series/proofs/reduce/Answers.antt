-- `series::reduce` meets its contract: y × R has 33 bits. Assumes nothing.
use Rattle.series.proofs.Parts.{product-fits, product-signed, difference-fits, reduced-is}
use Rattle.series.proofs.reduce.Goals as goal

pub overflow_mul-d : goal.overflow_mul-d
overflow_mul-d c = search product-fits

pub overflow_cast-d : goal.overflow_cast-d
overflow_cast-d c = search product-signed

pub overflow_sub-d : goal.overflow_sub-d
overflow_sub-d c = search difference-fits

pub returns : goal.returns
returns c = search reduced-is
