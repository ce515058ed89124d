-- The normal at a point, as the code has it. Assumes nothing.
use Rattle.std.specs.Prelude.{ℕ, ◌+◌, ◌*◌, ◌≤◌, ◌≡◌, ℤ, neg_ℤ}
use Rattle.words.specs.Parts.{parts_of}
use Rattle.cutter.specs.Limits.{difference_most}
use Rattle.normals.specs.declared.Normal.{Normal}

-- x and y are −dx and −dy by sign and magnitude
pub record NormalOf (dx dy : ℤ) (n : Normal) : Type 0 where
  pub x : n.x ≡ parts_of (neg_ℤ dx)
  pub y : n.y ≡ parts_of (neg_ℤ dy)

-- squared is the squared length of the normal, and x and y are in their ranges
pub record Measured (n : Normal) (step : ℕ) : Type 0 where
  pub x-most : n.x.magnitude ≤ difference_most
  pub y-most : n.y.magnitude ≤ difference_most
  pub squared : n.squared ≡ n.x.magnitude * n.x.magnitude + n.y.magnitude * n.y.magnitude + 4 * step * step
