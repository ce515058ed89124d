-- `normals::normal_at` meets its contract: the places around an inner point are within the map. Assumes nothing.
use Rattle.std.proofs.Common.{rules}
use Rattle.cutter.proofs.Places.{above_in, below_in}
use Rattle.normals.proofs.Slopes.{normal-is}
use Rattle.normals.proofs.normal_at.Goals as goal

pub returns : goal.returns
returns c = (search normal-is, search rules)

pub slope-y-requires : goal.slope-y-requires
slope-y-requires c = rw c.place-place.ensures (search above_in, search below_in)
