-- What is proved of the three sums before their division, for every a of three digits and both signs. Assumes nothing.
use Rattle.std.specs.Prelude.{◌≡◌, Bool, true, false, ℕ, ◌*◌, ◌/◌, ◌%◌, ◌^◌, ℤ, pos, ◌+ℤ◌, ◌-ℤ◌, ◌*ℤ◌, ◌≤ℤ◌}
use Rattle.kinds.specs.declared.Op.{Op}
use Rattle.kinds.specs.declared.Op.TheVariants.{Reciprocal, Root, InverseRoot}
use Rattle.significand.specs.Width.{k32}
use Rattle.significand.specs.Steps.{unit, digit2, digit3, sum_of}

-- the terms of each sum without s
abbrev pub unsigned_over : ℕ → Op → ℕ → ℕ → ℤ
unsigned_over k Reciprocal a2 a3 = pos (2 ^ k) *ℤ (pos (2 ^ (4 * k)) +ℤ pos (a2 * a2)) +ℤ pos (2 * a2 * a3)
unsigned_over k Root a2 a3 = pos (16 * 2 ^ k * 2 ^ (4 * k)) -ℤ pos (2 * 2 ^ k * a2 * a2) -ℤ pos (4 * a2 * a3)
unsigned_over k InverseRoot a2 a3 = pos (16 * 2 ^ k * 2 ^ (4 * k)) +ℤ pos (6 * 2 ^ k * a2 * a2) +ℤ pos (12 * a2 * a3)

-- a sum is not negative, and those of both signs add up to twice the terms without s
pub record Sums (k : ℕ) (op : Op) (a : ℕ) : Type 0 where
  pub not_negative : (positive : Bool) → pos 0 ≤ℤ sum_of k op (unit positive) a
  pub both-signs : sum_of k op (unit true) a +ℤ sum_of k op (unit false) a ≡ pos 2 *ℤ unsigned_over k op (digit2 k a) (digit3 k a)

-- the sums as document 01 prints them: 268,435,456 is 2^28, and 549,755,813,888 is 2^39
abbrev pub printed : Op → ℤ → ℕ → ℕ → ℕ → ℕ → ℤ
printed Reciprocal s a a2 a3 h =
    pos 128 *ℤ (pos 268435456 -ℤ s *ℤ pos a +ℤ pos (a2 * a2)) +ℤ pos (2 * a2 * a3) -ℤ s *ℤ pos (h * a2)
printed Root s a a2 a3 h =
    pos 549755813888 +ℤ pos 1024 *ℤ (s *ℤ pos a) -ℤ pos (256 * a2 * a2) -ℤ pos (4 * a2 * a3) +ℤ s *ℤ pos (h * a2)
printed InverseRoot s a a2 a3 h =
    pos 549755813888 -ℤ pos 1024 *ℤ (s *ℤ pos a) +ℤ pos (768 * a2 * a2) +ℤ pos (12 * a2 * a3) -ℤ pos 5 *ℤ (s *ℤ pos (h * a2))

-- and their terms without s
abbrev pub printed_unsigned : Op → ℕ → ℕ → ℤ
printed_unsigned Reciprocal a2 a3 = pos 128 *ℤ (pos 268435456 +ℤ pos (a2 * a2)) +ℤ pos (2 * a2 * a3)
printed_unsigned Root a2 a3 = pos 549755813888 -ℤ pos (256 * a2 * a2) -ℤ pos (4 * a2 * a3)
printed_unsigned InverseRoot a2 a3 = pos 549755813888 +ℤ pos (768 * a2 * a2) +ℤ pos (12 * a2 * a3)

-- at k = 7: each sum is the printed one of a and its digits, is not negative, and both signs add up to twice the terms without s
pub record Printed (op : Op) (a : ℕ) : Type 0 where
  pub sum : (positive : Bool)
      → sum_of k32 op (unit positive) a ≡ printed op (unit positive) a (a / 16384) (a / 128 % 128) (a / 16384 * (a / 16384) / 128)
  pub not_negative : (positive : Bool) → pos 0 ≤ℤ sum_of k32 op (unit positive) a
  pub both-signs : sum_of k32 op (unit true) a +ℤ sum_of k32 op (unit false) a ≡ pos 2 *ℤ printed_unsigned op (a / 16384) (a / 128 % 128)
