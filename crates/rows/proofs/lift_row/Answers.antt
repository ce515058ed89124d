-- `rows::lift_row` meets its contract: after n turns the row's first n records are lifted, and the others still stand. Assumes nothing.
use Rattle.std.proofs.Common.{arith}
use Rattle.lift.specs.Record.{lifted_at}
use Rattle.rows.specs.Row.{lifted_record}
use Rattle.rows.proofs.Held.{reaches-here, lifted-there}
use Rattle.rows.proofs.RowRecords.{put_none}
use Rattle.rows.proofs.LiftedRows.{reaches-still, lifts-more}
use Rattle.rows.proofs.lift_row.Goals as goal

pub loop-n-init : goal.loop-n-init
loop-n-init c = put_none (lifted_record c.args.row.map.bytes.now c.args.row.map.trailer c.args.row.row c.args.out.now) _ c.args.out.now

pub lift_record-requires-clause-reaches : goal.lift_record-requires-clause-reaches
lift_record-requires-clause-reaches c =
    let row = c.args.row in
    reaches-here c.point.result row.map c.loop-n.n row.row c.point.ensures _
    (reaches-still row.map.bytes.now row.map.trailer row.row c.args.out.now c.requires.room row.below c.loop-n.out c.loop-n.n c.first-first.result c.requires.row_reaches c.loop-n.invariant (omega (arith, c.loop-n-test.true, c.count-n-end.ensures)) c.first-first.ensures)

pub loop-n-preserved : goal.loop-n-preserved
loop-n-preserved c =
    let row = c.args.row in
    lifts-more row.map.bytes.now row.map.trailer row.row c.args.out.now c.requires.room row.below c.loop-n.out c.lift_record.new.out c.loop-n.n c.first-first.result (lifted_at c.point.result) c.loop-n.invariant
    (omega (arith, c.loop-n-test.true, c.count-n-end.ensures)) c.first-first.ensures c.lift_record.ensures (lifted-there c.point.result row.map c.loop-n.n row.row c.point.ensures)
