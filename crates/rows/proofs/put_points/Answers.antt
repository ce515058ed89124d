-- `rows::put_points` meets its contract: after some turns the records of so many rows are put. Assumes nothing.
use Rattle.std.proofs.Common.{arith, ◌-◌}
use Rattle.rows.specs.Row.{row_bytes}
use Rattle.rows.proofs.RowRecords.{put_none, rows_more, rows-put}
use Rattle.rows.proofs.put_points.Goals as goal

pub loop-row-init : goal.loop-row-init
loop-row-init c = put_none (row_bytes c.args.rule c.args.mode c.args.map.bytes.now (c.args.map.trailer.width - 2)) 0 c.args.out.now

pub loop-row-preserved : goal.loop-row-preserved
loop-row-preserved c = search rows_more

pub returns : goal.returns
returns c =
    let t = c.args.map.trailer in
    rows-put c.args.rule c.args.mode c.args.map.bytes.now (t.width - 2) (t.depth - 2) c.args.out.now c.loop-row.out c.loop-row.row c.loop-row.invariant (omega arith)
