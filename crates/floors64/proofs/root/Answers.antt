-- `floors64::root` meets its contract: the number tried is the floor or the next. Assumes nothing.
use Rattle.kinds.specs.declared.Op.TheVariants.{Root}
use Rattle.floors64.proofs.Tried.{sum_fits, tried-some, root-floor}
use Rattle.floors64.proofs.root.Goals as goal

pub overflow_add-q : goal.overflow_add-q
overflow_add-q c = search (sum_fits Root)

pub settled-requires : goal.settled-requires
settled-requires c = search (tried-some Root)

pub returns : goal.returns
returns c = search root-floor
