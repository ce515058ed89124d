-- `words::parts_of` meets its contract: std's magnitude, and the sign by a comparison. Assumes nothing.
use Rattle.std.proofs.lemmas.Int.{to_z-of_z}
use Rattle.std.specs.Int.{w32}
use Rattle.words.proofs.Bits.{parts-are}
use Rattle.words.proofs.parts_of.Goals as goal

pub returns : goal.returns
returns c = cc (parts-are c.args.x, to_z-of_z w32 c.args.x c.ranges.x)
