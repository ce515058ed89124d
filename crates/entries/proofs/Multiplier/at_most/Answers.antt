-- `entries::Multiplier::at_most` meets its contract: a law for each operation. Assumes nothing.
use Rattle.entries.proofs.Entries.{reciprocal-at-most, root-at-most, inverse-root-at-most}
use Rattle.entries.proofs.Multiplier.at_most.Goals as goal

pub returns-in-Reciprocal : goal.returns-in-Reciprocal
returns-in-Reciprocal c = search reciprocal-at-most

pub returns-in-Root : goal.returns-in-Root
returns-in-Root c = search root-at-most

pub returns-in-InverseRoot : goal.returns-in-InverseRoot
returns-in-InverseRoot c = search inverse-root-at-most
