-- `floors::taken::rest_of` meets its contract, by the rounding. Assumes nothing.
use Rattle.floors.proofs.Tested.{nearest-rest, up_rest, down-rest, zero_rest}
use Rattle.std.proofs.Common.{rules}
use Rattle.floors.proofs.taken.rest_of.Goals as goal

pub returns-in-Nearest : goal.returns-in-Nearest
returns-in-Nearest c = (search nearest-rest, search rules)

pub returns-in-Up : goal.returns-in-Up
returns-in-Up c = (search up_rest, search rules)

pub returns-in-Down : goal.returns-in-Down
returns-in-Down c = (search down-rest, search rules)

pub returns-in-TowardZero : goal.returns-in-TowardZero
returns-in-TowardZero c = (search zero_rest, search rules)
