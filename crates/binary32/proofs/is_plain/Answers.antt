-- `binary32::is_plain` meets its contract, by the operation. Assumes nothing.
use Rattle.binary32.proofs.Plain.{reciprocal-test, root-test, inverse-test}
use Rattle.binary32.proofs.is_plain.Goals as goal

pub returns-in-Reciprocal : goal.returns-in-Reciprocal
returns-in-Reciprocal c = search reciprocal-test

pub returns-in-Root : goal.returns-in-Root
returns-in-Root c = search root-test

pub returns-in-InverseRoot : goal.returns-in-InverseRoot
returns-in-InverseRoot c = search inverse-test
