-- The square root of a whole number, rounded up. Assumes nothing.
use Rattle.std.specs.Prelude.{ℕ, ◌*◌, leb}
use Rattle.numbers.specs.Least.{least}

-- the root of n, rounded up: the least s with s² ≥ n, for n up to 2^80
unfoldable pub ceiling_root : ℕ → ℕ
ceiling_root n = least 40 (λ (s : ℕ). leb n (s * s))
