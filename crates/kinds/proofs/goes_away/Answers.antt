-- `kinds::goes_away` meets its contract: each rounding is one law. Assumes nothing.
use Rattle.kinds.proofs.Neighbours.{nearest-is, up_is, down_is, toward-zero-is}
use Rattle.kinds.proofs.goes_away.Goals as goal

pub returns-in-Nearest : goal.returns-in-Nearest
returns-in-Nearest c = search nearest-is

pub returns-in-Up : goal.returns-in-Up
returns-in-Up c = search up_is

pub returns-in-Down : goal.returns-in-Down
returns-in-Down c = search down_is

pub returns-in-TowardZero : goal.returns-in-TowardZero
returns-in-TowardZero c = search toward-zero-is
