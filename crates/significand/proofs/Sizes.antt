-- The sizes of R, a and M at k = 7 and t = 3, and of M at k = 15, by which all that the steps work out fits 64 bits. Assumes nothing.
use mathlib.Core.Path.{◌≡◌}
use Prim.Native.Nat.{ℕ, ◌+◌, ◌*◌, ◌/◌, ◌^◌, ◌≤◌, ◌<◌}
use native.Mathlib.Omega.{arith}
use Rattle.kinds.specs.declared.Op.{Op}
use Rattle.significand.specs.Width.{k32, t32, k64, Significand}
use Rattle.significand.specs.Steps.{factor_of, reduced_of, multiplier_of}
use Rattle.significand.proofs.General.{multiplier-most}
use Rattle.significand.proofs.Reduction.{least, most, reduced-small as reduced-below}
use Rattle.significand.proofs.Multiplier.{multiplies}
use Rattle.significand.proofs.Numerals.{index_is}

-- M is at most 2^(4k + 1)
pub multiplier-upto : (k r p : ℕ) → 7 ≤ k → p ≤ 1 → 2 ^ k ≤ r → r ≤ 2 ^ (k + 1) → (op : Op) → multiplier_of k op r p ≤ 2 ^ (4 * k + 1)
multiplier-upto k r p h e least most op =
    multiplier-most k r p (multiplier_of k op r p) h e least most op (multiplies k r p (omega arith) e least most op)

module _ (y : ℕ) (Y : Significand k32 t32 y) where
  factor-least : 128 ≤ factor_of k32 (y / 65536)
  factor-least = rw (← index_is y) (least k32 t32 y (omega arith) Y)

  factor-most : factor_of k32 (y / 65536) ≤ 256
  factor-most = rw (← index_is y) (most k32 t32 y (omega arith) Y)

  module _ (r : ℕ) (e : r ≡ factor_of k32 (y / 65536)) where
    -- R has 9 bits
    pub factor-small : r ≤ 256
    factor-small = rw e factor-most

    -- a has 21 bits
    pub reduced-small : reduced_of k32 t32 (y * r) < 2 ^ 21
    reduced-small = rw (e, ← index_is y) (reduced-below k32 t32 y (omega arith) Y)

  -- M has 30 bits
  pub multiplier-small : (op : Op) (p m : ℕ) → p ≤ 1 → m ≡ multiplier_of k32 op (factor_of k32 (y / 65536)) p → m < 2 ^ 30
  multiplier-small op p m h e =
      rw e (omega (arith, multiplier-upto k32 (factor_of k32 (y / 65536)) p (omega arith) h factor-least factor-most op))

-- at k = 15 M has 62 bits
pub multiplier64-most : (op : Op) (r p : ℕ) → 2 ^ 15 ≤ r → r ≤ 2 ^ 16 → p ≤ 1 → multiplier_of k64 op r p ≤ 2 ^ 61
multiplier64-most op r p least most parity = multiplier-upto k64 r p (omega arith) parity least most op
