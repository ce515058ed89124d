-- Where the lower and the upper list of a map agree. Assumes nothing.
use Rattle.std.specs.Prelude.{ℕ, ◌*◌, ◌≡◌, List, nat_abs}
use Rattle.cutter.specs.Offset.{squared_length, MultipleOf}
use Rattle.cutter.specs.Map.{Inner, width_of, depth_of, step_of, radius_of}
use Rattle.cutter.specs.Centre.{Point, point_at}

-- at a point the squared length of the normal is a perfect square whose root divides each component times the radius
pub record ExactAt (step radius : ℕ) (p : Point) : Type 0 where
  pub root : ℕ
  pub square : root * root ≡ squared_length p.dx p.dy step
  pub along-x : MultipleOf root (nat_abs p.dx * radius)
  pub along-y : MultipleOf root (nat_abs p.dy * radius)
  pub along-z : MultipleOf root (2 * step * radius)

-- it is so at every inner point of a map
abbrev pub ExactMap : List ℕ → Type 0
ExactMap m = (c q : ℕ) → Inner (width_of m) (depth_of m) c q → ExactAt (step_of m) (radius_of m) (point_at m (width_of m) c q)
