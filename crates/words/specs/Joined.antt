-- Runs of bytes, one after the other. Assumes nothing.
use Rattle.std.specs.Prelude.{ℕ, zero, suc, List, [], ◌++◌}

-- the first n runs of a sequence
unfoldable pub joined : (ℕ → List ℕ) → ℕ → List ℕ
joined run zero = []
joined run (suc n) = joined run n ++ run n
