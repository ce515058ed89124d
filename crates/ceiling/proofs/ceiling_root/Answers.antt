-- `ceiling::ceiling_root` meets its contract: the raw root, rounded, is the root rounded up or one below it. Assumes nothing.
use Rattle.ceiling.proofs.Start.{half-most, starts, stays, steps}
use Rattle.ceiling.proofs.ceiling_root.Goals as goal

pub overflow_sub-c : goal.overflow_sub-c
overflow_sub-c c = search half-most

pub returns-then-c-n : goal.returns-then-c-n
returns-then-c-n c = search (steps, starts)

pub returns-else-c-n : goal.returns-else-c-n
returns-else-c-n c = search (stays, starts)
