-- `offset::sign_of` meets its contract: the highest bit of what wraps. Assumes nothing.
use Rattle.offset.proofs.Settling.{sign-is, sign-most}
use Rattle.offset.proofs.sign_of.Goals as goal

pub returns : goal.returns
returns c = (search sign-is, search sign-most)
