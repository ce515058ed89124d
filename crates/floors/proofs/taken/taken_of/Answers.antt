-- `floors::taken::taken_of` meets its contract, by the operation. Assumes nothing.
use Rattle.floors.proofs.Cases.{taken-case, root-case}
use Rattle.floors.proofs.taken.taken_of.Goals as goal

pub returns-in-Reciprocal : goal.returns-in-Reciprocal
returns-in-Reciprocal c = search taken-case

pub returns-in-Root : goal.returns-in-Root
returns-in-Root c = search root-case

pub returns-in-InverseRoot : goal.returns-in-InverseRoot
returns-in-InverseRoot c = search root-case
