-- `offset::rounded_over` meets its contract: the start is near enough for one test. Assumes nothing.
use Rattle.std.proofs.Common.{rules}
use Rattle.offset.proofs.Places.{start_fits, started}
use Rattle.offset.proofs.Settling.{rounded-is-over, rounded-short}
use Rattle.offset.proofs.rounded_over.Goals as goal

pub overflow_mul-start : goal.overflow_mul-start
overflow_mul-start c = search start_fits

pub settled_by-requires : goal.settled_by-requires
settled_by-requires c = (search rules, search started)

pub returns : goal.returns
returns c = (search rounded-is-over, search rounded-short)
