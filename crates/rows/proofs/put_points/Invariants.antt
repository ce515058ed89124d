-- `rows::put_points` meets its contract: after some turns the records of so many rows are put. Assumes nothing.
use Rattle.std.proofs.Common.{◌≡◌, ◌-◌}
use Rattle.words.specs.Splice.{splice}
use Rattle.words.specs.Joined.{joined}
use Rattle.rows.specs.Row.{row_bytes}
use Rattle.rows.proofs.put_points.Given as goal

abbrev pub invariant-loop-row : goal.invariant-loop-row
invariant-loop-row l = l.out ≡ splice 0 (joined (row_bytes l.rule l.mode l.map.bytes.now (l.map.trailer.width - 2)) l.row) l.fn.out
