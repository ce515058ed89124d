-- `binary32::by` meets its contract: the short way, or apart. Assumes nothing.
use Rattle.binary32.proofs.Plain.{plain, plain-answered}
use Rattle.binary32.proofs.by.Goals as goal

pub normal-requires : goal.normal-requires
normal-requires c = search plain

pub returns : goal.returns
returns c = search plain-answered
