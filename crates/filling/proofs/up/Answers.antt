-- `filling::up` meets its contract. Assumes nothing.
use Rattle.std.proofs.Common.{rules}
use Rattle.significand.proofs.Sizes.{multiplier64-most}
use Rattle.filling.proofs.up.Goals as goal

pub loop-m-init : goal.loop-m-init
loop-m-init c = (search rules, search multiplier64-most)
