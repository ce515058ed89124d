-- The widths at which documents 01 and 02 build the raw unit, and the operands that it takes. Assumes nothing.
use Rattle.std.specs.Prelude.{◌≡◌, ℕ, ◌+◌, ◌*◌, ◌-◌, ◌^◌, ◌≤◌, ◌<◌}
use Rattle.std.proofs.Common.{lit≤}
use Rattle.kinds.specs.declared.Op.{Op}
use Rattle.kinds.specs.declared.Op.TheVariants.{Reciprocal}

-- k, the bits of a digit, and t, the bits below the three digits
abbrev pub k32 : ℕ
k32 = 7

abbrev pub t32 : ℕ
t32 = 3

-- the same for significands of 53 bits
abbrev pub k64 : ℕ
k64 = 15

abbrev pub t64 : ℕ
t64 = 8

-- what every width is: digits of 7 to 15 bits, and a significand of up to 53
pub record WidthLaws (k t : ℕ) : Type 0 where
  pub least : 7 ≤ k
  pub most : k ≤ 15
  pub word : 3 * k + t ≤ 53

pub laws32 : WidthLaws k32 t32
laws32 = record { least = lit≤ tt; most = lit≤ tt; word = lit≤ tt }

pub laws64 : WidthLaws k64 t64
laws64 = record { least = lit≤ tt; most = lit≤ tt; word = lit≤ tt }

-- y has 3k + t bits [8,388,608 to 16,777,215]
pub record Significand (k t y : ℕ) : Type 0 where
  pub least : 2 ^ (3 * k + t - 1) ≤ y
  pub below : y < 2 ^ (3 * k + t)

-- what an operation takes: a significand and a parity, which is 0 for the reciprocal
pub record Operand (k t : ℕ) (op : Op) (y p : ℕ) : Type 0 where
  pub significand : Significand k t y
  pub parity : p ≤ 1
  pub even : op ≡ Reciprocal → p ≡ 0
