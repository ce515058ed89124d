-- `normals::slope` meets its contract: two heights differ by a number of 32 bits. Assumes nothing.
use Rattle.normals.proofs.Slopes.{slope-is, slope-most}
use Rattle.normals.proofs.slope.Goals as goal

pub returns : goal.returns
returns c = (search slope-is, search slope-most)
