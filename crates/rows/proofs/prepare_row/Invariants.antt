-- `rows::prepare_row` meets its contract: after n turns the row's first n points are held. Assumes nothing.
use Rattle.centres.specs.Prepared.{RowHeld}
use Rattle.rows.proofs.prepare_row.Given as goal

abbrev pub invariant-loop-n : goal.invariant-loop-n
invariant-loop-n l = RowHeld l.row.map.bytes.now l.row.map.trailer l.row.row l.n l.held
