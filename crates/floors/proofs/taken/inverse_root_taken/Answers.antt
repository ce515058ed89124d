-- `floors::taken::inverse_root_taken` meets its contract: each rounding has its own rest. Assumes nothing.
use Rattle.floors.proofs.Tested.{nearest-rest, up_rest, down-rest, zero_rest, taken-rest}
use Rattle.floors.proofs.taken.inverse_root_taken.Goals as goal

pub returns-in-Nearest : goal.returns-in-Nearest
returns-in-Nearest c = search (taken-rest, nearest-rest)

pub returns-in-Up : goal.returns-in-Up
returns-in-Up c = search (taken-rest, up_rest)

pub returns-in-Down : goal.returns-in-Down
returns-in-Down c = search (taken-rest, down-rest)

pub returns-in-TowardZero : goal.returns-in-TowardZero
returns-in-TowardZero c = search (taken-rest, zero_rest)
