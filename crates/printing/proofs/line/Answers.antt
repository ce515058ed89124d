-- `printing::line` meets its contract: number by number, and the last one with a newline behind it. Assumes nothing.
use Rattle.std.proofs.Common.{rules, arith, ◌∙◌, slice_index_or, pos}
use Rattle.printing.proofs.Lines.{blanks_more, line_ended, short, pushed}
use Rattle.printing.proofs.line.Goals as goal

pub push_number-requires : goal.push_number-requires
push_number-requires c =
    let parts = rw c.unwrap.ensures at c.split_last.ensures.cases in
    let few = short c.from.result (slice_index_or c.unwrap.result.1.now c.loop-x.x-index (pos 0)) c.from.ensures (search rules) in
    (search rules, omega (arith, parts.1, c.loop-x.invariant.1))

pub loop-x-preserved : goal.loop-x-preserved
loop-x-preserved c =
    let text = pushed c.from.result (slice_index_or c.unwrap.result.1.now c.loop-x.x-index (pos 0)) c.from.ensures (search rules) _ _ _ c.push_number.ensures in
    (text.0 ∙ blanks_more _ _ _ c.loop-x-test.true c.loop-x.invariant.0, omega (arith, text.1, c.loop-x.invariant.1))

pub push_number-requires-2 : goal.push_number-requires-2
push_number-requires-2 c =
    let parts = rw c.unwrap.ensures at c.split_last.ensures.cases in
    let few = short c.from-2.result c.unwrap.result.0.now c.from-2.ensures (search rules) in
    (search rules, omega (arith, parts.1, c.loop-x.invariant.1))

pub returns : goal.returns
returns c =
    let parts = rw c.unwrap.ensures at c.split_last.ensures.cases in
    let text = pushed c.from-2.result c.unwrap.result.0.now c.from-2.ensures (search rules) _ _ _ c.push_number-2.ensures in
    record {
      text = text.0 ∙ line_ended _ _ _ _ _ c.loop-x-test.false parts.0 c.loop-x.invariant.0;
      short = omega (arith, parts.1, text.1, c.loop-x.invariant.1);
    }
