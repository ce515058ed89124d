-- The length of a list has 32 bits. Assumes nothing.
use Rattle.plate.proofs.Listed.{reported-small}
use Rattle.plate_c.proofs.plate_lifted_list.Goals as goal

pub overflow_cast-length : goal.overflow_cast-length
overflow_cast-length c = search reported-small
