-- Bytes that code puts, with the place behind them. Assumes nothing.
use Rattle.std.specs.Prelude.{ℕ, ◌+◌, ◌≤◌, ◌≡◌, List, length}
use Rattle.words.specs.Splice.{splice}

-- the bytes b, n at most, were put over those of l from `at` on; the list is now l₁, and `end` is the place behind them
pub record PutAt (at n : ℕ) (b l : List ℕ) (end : ℕ) (l₁ : List ℕ) : Type 0 where
  pub is : l₁ ≡ splice at b l
  pub behind : end ≡ at + length b
  pub most : end ≤ at + n
  pub same : length l₁ ≡ length l
