-- `Raw32` meets the contract of steps 1 and 4, by the tables in the code. Assumes nothing.
use Rattle.kinds.specs.declared.Op.TheVariants.{Root, InverseRoot}
use Rattle.raw.proofs.Answers.{reciprocal-given, root-given}
use Rattle.raw.proofs.Raw32Steps.row.Goals as goal

pub returns-in-Reciprocal : goal.returns-in-Reciprocal
returns-in-Reciprocal c =
    reciprocal-given c.args.op c.args.y c.args.p c.reciprocal_row-row.result c.in-Reciprocal.is c.reciprocal_row-row.ensures.0 c.reciprocal_row-row.ensures.1

pub returns-in-Root : goal.returns-in-Root
returns-in-Root c =
    root-given c.args.op Root c.args.y c.args.p c.row_key.result c.row-row.result c.in-Root.is c.row-row.ensures c.row_key.ensures.2 c.row_key.ensures.3

pub returns-in-InverseRoot : goal.returns-in-InverseRoot
returns-in-InverseRoot c =
    root-given c.args.op InverseRoot c.args.y c.args.p c.row_key-in-InverseRoot.result c.row-row-in-InverseRoot.result c.in-InverseRoot.is
    c.row-row-in-InverseRoot.ensures c.row_key-in-InverseRoot.ensures.2 c.row_key-in-InverseRoot.ensures.3
