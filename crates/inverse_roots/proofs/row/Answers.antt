-- `inverse_roots::row` meets its contract: the whole table passes one test. Assumes nothing.
use native.Mathlib.Omega.{arith}
use Rattle.kinds.specs.declared.Op.TheVariants.{InverseRoot}
use Rattle.significand.proofs.Numerals.{inverse_root_test, inverse-root-entry}
use Rattle.inverse_roots.specs.declared.TheConstants.{INVERSE_ROOTS}
use Rattle.tables.proofs.Rows.{row-looked-up}
use Rattle.inverse_roots.proofs.row.Goals as goal

pub returns : goal.returns
returns c = row-looked-up InverseRoot inverse_root_test inverse-root-entry c.args.key INVERSE_ROOTS tt (omega arith) (omega arith)
