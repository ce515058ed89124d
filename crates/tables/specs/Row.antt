-- What a row of a root's table holds. Assumes nothing.
use Rattle.std.specs.Prelude.{◌≡◌, ℕ, ◌+◌, ◌/◌, ◌%◌, ◌^◌}
use Rattle.kinds.specs.declared.Op.{Op}
use Rattle.significand.specs.Steps.{factor_of, multiplier_of}
use Rattle.tables.specs.declared.Row.{Row}

-- the index and the parity that a key stands for: its lower k bits [7] are those of the index, and the bit above them is the parity
abbrev pub index_at : ℕ → ℕ → ℕ
index_at k key = 2 ^ k + key % 2 ^ k

abbrev pub parity_at : ℕ → ℕ → ℕ
parity_at k key = key / 2 ^ k % 2

-- R and M of the key
pub record RowOf (k : ℕ) (op : Op) (key : ℕ) (r : Row) : Type 0 where
  pub factor : r.0 ≡ factor_of k (index_at k key)
  pub multiplier : r.1 ≡ multiplier_of k op (factor_of k (index_at k key)) (parity_at k key)
