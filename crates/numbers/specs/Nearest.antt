-- The whole number nearest to the square root of a quotient. Assumes nothing.
use Rattle.std.specs.Prelude.{◌≡◌, Bool, ℕ, ◌+◌, ◌*◌, ◌-◌, ◌<◌, ltb}
use Rattle.numbers.specs.Greatest.{greatest}

-- w − ½ is below √(n / d); at w = 0, where 2 w − 1 is 0, it passes for every n above 0
abbrev pub half_below : ℕ → ℕ → ℕ → Bool
half_below d n w = ltb ((2 * w - 1) * (2 * w - 1) * d) (4 * n)

-- the whole number below 2^b that is nearest to √(n / d): the greatest whose half below is under that root
abbrev pub nearest_root : ℕ → ℕ → ℕ → ℕ
nearest_root b d n = greatest b (half_below d n)

-- w is nearer to √(n / d) than every other v is: their middle is below that root where v is less, and above it where v is more
pub record Nearest (d n w : ℕ) : Type 0 where
  pub less : (v : ℕ) → v < w → (v + w) * (v + w) * d < 4 * n
  pub more : (v : ℕ) → w < v → 4 * n < (v + w) * (v + w) * d

-- w and w + 1 are equally near
abbrev pub Tie : ℕ → ℕ → ℕ → Type 0
Tie d n w = (2 * w + 1) * (2 * w + 1) * d ≡ 4 * n

-- w is less than one away
pub record WithinOne (d n w : ℕ) : Type 0 where
  pub low : (w - 1) * (w - 1) * d < n
  pub high : n < (w + 1) * (w + 1) * d
