-- `offset::scale_of` meets its contract: the raw answer lies within its distance, which is taken off. Assumes nothing.
use Rattle.std.proofs.Common.{rules}
use Rattle.offset.proofs.InverseRoot.{answer-above, scale-fits, scale-is}
use Rattle.offset.proofs.scale_of.Goals as goal

pub overflow_sub-low : goal.overflow_sub-low
overflow_sub-low c = search (answer-above, rules)

pub overflow_mul-result : goal.overflow_mul-result
overflow_mul-result c = search scale-fits

pub returns : goal.returns
returns c = search scale-is
