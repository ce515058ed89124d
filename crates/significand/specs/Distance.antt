-- How far an answer g may be from 2^(4k) times the exact value, said by products and squares of whole numbers. Assumes nothing.
-- The significand y stands for Y = y / 2^m, m = 3k + t − 1, and the exact values are 1 / Y, √(2^p·Y) and 1 / √(2^p·Y).
use Rattle.std.specs.Prelude.{ℕ, ◌+◌, ◌*◌, ◌-◌, ◌^◌, ◌≤◌, ◌<◌}
use Rattle.kinds.specs.declared.Op.{Op}
use Rattle.kinds.specs.declared.Op.TheVariants.{Reciprocal, Root, InverseRoot}

-- x is below 2^(4k) times the exact value
abbrev pub Under : Op → ℕ → ℕ → ℕ → ℕ → ℕ → Type 0
Under Reciprocal k m y p x = x * y < 2 ^ (4 * k + m)
Under Root k m y p x = x * x * 2 ^ m < y * 2 ^ (8 * k + p)
Under InverseRoot k m y p x = x * x * y * 2 ^ p < 2 ^ (8 * k + m)

-- x is above it
abbrev pub Over : Op → ℕ → ℕ → ℕ → ℕ → ℕ → Type 0
Over Reciprocal k m y p x = 2 ^ (4 * k + m) < x * y
Over Root k m y p x = y * 2 ^ (8 * k + p) < x * x * 2 ^ m
Over InverseRoot k m y p x = 2 ^ (8 * k + m) < x * x * y * 2 ^ p

-- g is less than d away from it
pub record Near (op : Op) (k t y p d g : ℕ) : Type 0 where
  pub enough : d ≤ g
  pub under : Under op k (3 * k + t - 1) y p (g - d)
  pub over : Over op k (3 * k + t - 1) y p (g + d)

-- the distances: under 12, 7 and 7 units of 1 / 2^(4k) [1 / 268,435,456]
abbrev pub bound_of : Op → ℕ
bound_of Reciprocal = 12
bound_of Root = 7
bound_of InverseRoot = 7

-- of which an answer lies so far above the exact value at most: under 5, 7 and 7
abbrev pub above_of : Op → ℕ
above_of Reciprocal = 5
above_of Root = 7
above_of InverseRoot = 7

-- g is less than its distance away, and less than `above_of` above
pub record Between (op : Op) (k t y p g : ℕ) : Type 0 where
  pub near : Near op k t y p (bound_of op) g
  pub above : Under op k (3 * k + t - 1) y p (g - above_of op)
