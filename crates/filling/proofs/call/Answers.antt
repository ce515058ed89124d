-- `filling::call` meets its contract: after a "no" the slice is kept, and else filled. Assumes nothing.
use Rattle.filling.proofs.Refusing.{kept, filled}
use Rattle.filling.proofs.call.Goals as goal

pub returns-then-table-ne-LENGTH-clause-table_after : goal.returns-then-table-ne-LENGTH-clause-table_after
returns-then-table-ne-LENGTH-clause-table_after c = search kept

pub returns-clause-table_after : goal.returns-clause-table_after
returns-clause-table_after c = search filled
