-- Step 4: no number that is the half of a whole one is the exact M of a root, so that rounding it to the nearest meets no tie.
-- Assumes nothing.
use mathlib.Core.Path.{ap}
use mathlib.Core.List.{[], ◌∷◌}
use Prim.Native.Nat.{ℕ, ◌+◌, ◌*◌, ◌^◌, ◌≤◌, ◌<◌}
use native.Mathlib.Nat.{lt_of_le_of_lt}
use native.Mathlib.Omega.{arith}
use lib.Pow.{pow_pos, pow-lt}
use Rattle.numbers.specs.Nearest.{Tie}
use Rattle.numbers.proofs.Exponents.{power-of}
use Rattle.numbers.proofs.Nearest.{no_tie}

-- every R that is from 2^k to 2^(k + 1); what the exact M of either root is the root of is n / d
module _ (k r p : ℕ) (h : 1 ≤ k) (e : p ≤ 1) (least : 2 ^ k ≤ r) (most : r ≤ 2 ^ (k + 1)) where
  abbrev root_n : ℕ
  root_n = 2 ^ (9 * k + 1 + p)

  abbrev inverse_d : ℕ
  inverse_d = 2 ^ (k + 1 + p)

  abbrev inverse_n : ℕ
  inverse_n = r * 2 ^ (8 * k)

  positive : 0 < r
  positive = omega (arith, least, pow_pos k)

  -- NO TIE: an odd square times R is no power of two, and one times 2^(k + 1 + p) is no multiple of 2^(8k + 2)
  pub root-untied : (w : ℕ) → Tie r root_n w → ⊥
  root-untied =
      no_tie (9 * k + 3 + p) 1 r root_n positive (lt_of_le_of_lt most (pow-lt (omega arith)))
      (omega (arith, power-of (9 * k + 3 + p) (2 ∷ (9 * k + 1 + p) ∷ []) (omega arith)))

  pub inverse-untied : (w : ℕ) → Tie inverse_d inverse_n w → ⊥
  inverse-untied =
      no_tie (8 * k + 2) r inverse_d inverse_n (pow_pos (k + 1 + p)) (pow-lt (omega arith))
      (omega (arith, ap (λ (m : ℕ). r * m) (power-of (8 * k + 2) (2 ∷ 8 * k ∷ []) (omega arith))))
