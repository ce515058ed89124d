-- `factors::factor` meets its contract: the whole table passes one test. Assumes nothing.
use native.Mathlib.Omega.{arith}
use Rattle.factors.specs.declared.TheConstants.{FACTORS}
use Rattle.tables.proofs.Rows.{factor-looked-up}
use Rattle.factors.proofs.factor.Goals as goal

pub returns : goal.returns
returns c = factor-looked-up c.args.key FACTORS tt (omega arith)
