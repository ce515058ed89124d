-- `offset::settled_by` meets its contract: each call is at the rest of its rounding. Assumes nothing.
use Rattle.offset.proofs.Settling.{by-nearest, by-up, by_down, by_zero}
use Rattle.offset.proofs.settled_by.Goals as goal

pub returns-in-Nearest : goal.returns-in-Nearest
returns-in-Nearest c = search by-nearest

pub returns-in-Up : goal.returns-in-Up
returns-in-Up c = search by-up

pub returns-in-Down : goal.returns-in-Down
returns-in-Down c = search by_down

pub returns-in-TowardZero : goal.returns-in-TowardZero
returns-in-TowardZero c = search by_zero
