-- `roots::row` meets its contract: the whole table passes one test. Assumes nothing.
use native.Mathlib.Omega.{arith}
use Rattle.kinds.specs.declared.Op.TheVariants.{Root}
use Rattle.significand.proofs.Numerals.{root_test, root-entry}
use Rattle.roots.specs.declared.TheConstants.{ROOTS}
use Rattle.tables.proofs.Rows.{row-looked-up}
use Rattle.roots.proofs.row.Goals as goal

pub returns : goal.returns
returns c = row-looked-up Root root_test root-entry c.args.key ROOTS tt (omega arith) (omega arith)
