-- `Raw64` meets the contract of steps 1 and 4, by the entry of the lent tables. Assumes nothing.
use borrow.Author.Rules.{rules}
use borrow.Author.Tests.{not-true, not-false}
use Rattle.raw64.proofs.Answers.{reciprocal-given, broken-given, held-given}
use Rattle.raw64.proofs.Raw64Steps.row.Goals as goal

pub returns-then-is_reciprocal : goal.returns-then-is_reciprocal
returns-then-is_reciprocal c =
    reciprocal-given c.args.op c.args.y c.args.p c.factor-r.result c.args.table.now c.is_reciprocal.result c.is_reciprocal.ensures (search rules)
    c.factor-r.ensures.0

pub returns-then-not-holds : goal.returns-then-not-holds
returns-then-not-holds c =
    broken-given c.args.op c.args.y c.args.p c.factor-r.result c.entry-m.result c.args.table.now c.factor-r.ensures.0 c.entry-m.ensures (search rules)
    c.holds.result c.holds.ensures (search not-true)

pub returns : goal.returns
returns c =
    held-given c.args.op c.args.y c.args.p c.factor-r.result c.entry-m.result c.args.table.now c.factor-r.ensures.0 c.entry-m.ensures (search rules)
    c.holds.result c.holds.ensures (search not-false)
