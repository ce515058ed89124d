-- `rows::put_row_at` meets its contract: after n turns the row's first n records are put. Assumes nothing.
use Rattle.std.proofs.Common.{arith, ◌-◌}
use Rattle.kinds.specs.declared.Rule.TheVariants.{Touching}
use Rattle.rows.specs.Row.{row_record}
use Rattle.rows.proofs.Held.{touching-there}
use Rattle.rows.proofs.RowRecords.{put_none, points-more, row_put}
use Rattle.rows.proofs.put_row_at.Goals as goal

pub loop-n-init : goal.loop-n-init
loop-n-init c =
    put_none (row_record Touching c.args.mode c.args.row.map.bytes.now (c.args.row.map.trailer.width - 2) c.args.row.row) _ c.args.out.now

pub loop-n-preserved : goal.loop-n-preserved
loop-n-preserved c =
    let row = c.args.row in
    points-more c.args.mode row.map.bytes.now row.map.trailer row.row c.args.out.now c.requires.room row.below row.map.ready
    c.loop-n.out c.put_point.new.out c.loop-n.n c.first-first.result _ c.loop-n.invariant (omega (arith, c.loop-n-test.true, c.count-n-end.ensures))
    c.first-first.ensures c.put_point.ensures (touching-there c.point.result row.map c.loop-n.n row.row c.point.ensures c.args.mode)

pub returns : goal.returns
returns c =
    let row = c.args.row in
    row_put c.args.mode row.map.bytes.now row.map.trailer row.row c.args.out.now c.requires.room row.below row.map.ready c.loop-n.out c.loop-n.n c.loop-n.invariant
    (omega (arith, c.loop-n-test.false, c.loop-n.auto.n-end, c.count-n-end.ensures))
