-- `floors64::inverse_root` meets its contract: the number tried is the floor or the next. Assumes nothing.
use Rattle.kinds.specs.declared.Op.TheVariants.{InverseRoot}
use Rattle.floors64.proofs.Tried.{sum_fits, tried-some}
use Rattle.floors64.proofs.Words.{inverse-root-floor}
use Rattle.floors64.proofs.inverse_root.Goals as goal

pub overflow_add-q : goal.overflow_add-q
overflow_add-q c = search (sum_fits InverseRoot)

pub settled-requires : goal.settled-requires
settled-requires c = search (tried-some InverseRoot)

pub returns : goal.returns
returns c = search inverse-root-floor
