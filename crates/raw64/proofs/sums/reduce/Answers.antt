-- `raw64::sums::reduce` meets its contract: both products have 53 bits. Assumes nothing.
use Rattle.raw64.proofs.Parts.{up_fits, index-fits, left-fits, down_fits, up-signed, down-signed, difference-fits, reduced-is}
use Rattle.raw64.proofs.sums.reduce.Goals as goal

pub overflow_mul-up : goal.overflow_mul-up
overflow_mul-up c = search up_fits

pub overflow_mul-down : goal.overflow_mul-down
overflow_mul-down c = search index-fits

pub overflow_sub-down : goal.overflow_sub-down
overflow_sub-down c = search left-fits

pub overflow_mul-down-2 : goal.overflow_mul-down-2
overflow_mul-down-2 c = search down_fits

pub overflow_cast-d : goal.overflow_cast-d
overflow_cast-d c = search up-signed

pub overflow_cast-d-2 : goal.overflow_cast-d-2
overflow_cast-d-2 c = search down-signed

pub overflow_sub-d : goal.overflow_sub-d
overflow_sub-d c = search difference-fits

pub returns : goal.returns
returns c = search reduced-is
