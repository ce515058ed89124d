-- `rows::put_row_by` meets its contract: the row as it is put, or that lifted. Assumes nothing.
use Rattle.rows.proofs.LiftedRows.{row-reaches, row-by-lifted}
use Rattle.rows.proofs.put_row_by.Goals as goal

pub lift_row-requires-clause-row_reaches : goal.lift_row-requires-clause-row_reaches
lift_row-requires-clause-row_reaches c = search row-reaches

pub returns-in-Lifted : goal.returns-in-Lifted
returns-in-Lifted c = search row-by-lifted
