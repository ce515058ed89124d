-- The squares of level distances along x or y, as the code has them. Assumes nothing.
use Rattle.std.specs.Prelude.{◌^◌, ◌<◌}
use Rattle.raising.specs.declared.Squares.{Squares}

-- all are below 2^36
pub record Small (s : Squares) : Type 0 where
  pub before : s.before < 2 ^ 36
  pub own : s.own < 2 ^ 36
  pub behind : s.behind < 2 ^ 36
