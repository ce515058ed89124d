-- A reciprocal of the raw unit, step by step. Assumes nothing.
use Rattle.std.specs.Prelude.{◌≡◌, false, ℕ, ◌*◌, negsuc}
use Rattle.kinds.specs.declared.Op.TheVariants.{Reciprocal}
use Rattle.significand.specs.Steps.{index_of, factor_of, sign_of, unit, reduced_of, series_of, raw_of}

-- R, the sign s, which is −1, a, b and the answer of the significand y
pub record Worked (k t y r a b g : ℕ) : Type 0 where
  pub factor : factor_of k (index_of k t y) ≡ r
  pub sign : unit (sign_of k t (y * r)) ≡ negsuc 0
  pub reduced : reduced_of k t (y * r) ≡ a
  pub series : series_of k Reciprocal false a ≡ b
  pub answer : raw_of k t Reciprocal y 0 ≡ g
