-- The bits of two numbers joined by or. Assumes nothing.
use mathlib.Core.Path.{◌≡◌, ap, ◌∙◌}
use Prim.Native.Nat.{ℕ, ◌/◌, ◌%◌, ◌^◌, ◌≤◌, max}
use native.Mathlib.Nat.{le-max_left}
use native.Mathlib.Omega.{arith}
use lib.Arith.{digits_mod}
use lib.Bits.{bit_or, or_step, or_shr}

-- the bit of 2^k in s, 0 or 1
abbrev pub bit : ℕ → ℕ → ℕ
bit k s = s / 2 ^ k % 2

-- the lowest bit of the join
lowest : (a b : ℕ) → bit_or a b % 2 ≡ max (a % 2) (b % 2)
lowest a b = ap (λ (x : ℕ). x % 2) (or_step a b) ∙ digits_mod (bit_or (a / 2) (b / 2)) (omega arith)

-- a bit of the join is 1 where one of the two is
pub bit-or : (k a b : ℕ) → bit k (bit_or a b) ≡ max (bit k a) (bit k b)
bit-or k a b = ap (λ (x : ℕ). x % 2) (or_shr a b k) ∙ lowest (a / 2 ^ k) (b / 2 ^ k)

-- so a bit of the first is one of the join
pub or-keeps : (k a b : ℕ) → bit k a ≤ bit k (bit_or a b)
or-keeps k a b = rw (bit-or k a b) (le-max_left (bit k a) (bit k b))
