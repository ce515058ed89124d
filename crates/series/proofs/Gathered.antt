-- The sums of step 3 with their terms gathered: one term of the second order, and one product by s. Over k, each is the sum of the
-- definition. Assumes nothing.
use mathlib.Core.Path.{◌≡◌, sym, ◌∙◌}
use mathlib.Core.Bool.{Bool, true, false, cond}
use Prim.Native.Nat.{ℕ, ◌+◌, ◌*◌, ◌^◌}
use native.Mathlib.Omega.{arith}
use lib.IntN.{ℤ, pos, sub_ℕ, ◌+ℤ◌, ◌-ℤ◌, ◌*ℤ◌}
use Rattle.kinds.specs.declared.Op.{Op}
use Rattle.kinds.specs.declared.Op.TheVariants.{Reciprocal, Root, InverseRoot}
use Rattle.numbers.proofs.Differences.{diff-eq, diff-add, pos-less, less-diff}
use Rattle.significand.specs.Steps.{unit, sum_over}
use Rattle.significand.proofs.Sums.{times-unit, added, taken, difference}

-- over s, a, c, which is 2^k·a2² + 2·a2·a3, and w, which is h·a2
abbrev pub gathered : ℕ → Op → ℤ → ℕ → ℕ → ℕ → ℤ
gathered k Reciprocal s a c w = pos (2 ^ k * 2 ^ (4 * k) + c) -ℤ s *ℤ pos (2 ^ k * a + w)
gathered k Root s a c w = pos (16 * 2 ^ k * 2 ^ (4 * k)) -ℤ pos (2 * c) +ℤ s *ℤ pos (8 * 2 ^ k * a + w)
gathered k InverseRoot s a c w = pos (16 * 2 ^ k * 2 ^ (4 * k) + 6 * c) -ℤ s *ℤ pos (8 * 2 ^ k * a + 5 * w)

module _ (k a a2 a3 h : ℕ) where
  abbrev c : ℕ
  c = 2 ^ k * (a2 * a2) + 2 * (a2 * a3)

  abbrev first : Op → ℕ
  first Reciprocal = 2 ^ k * 2 ^ (4 * k) + c
  first Root = 16 * 2 ^ k * 2 ^ (4 * k)
  first InverseRoot = 16 * 2 ^ k * 2 ^ (4 * k) + 6 * c

  abbrev signed : Op → ℕ
  signed Reciprocal = 2 ^ k * a + h * a2
  signed Root = 8 * 2 ^ k * a + h * a2
  signed InverseRoot = 8 * 2 ^ k * a + 5 * (h * a2)

  -- what it adds and what it takes away
  abbrev more : Bool → Op → ℕ
  more sign Reciprocal = first Reciprocal + cond sign 0 (signed Reciprocal)
  more sign Root = first Root + cond sign (signed Root) 0
  more sign InverseRoot = first InverseRoot + cond sign 0 (signed InverseRoot)

  abbrev less : Bool → Op → ℕ
  less sign Reciprocal = cond sign (signed Reciprocal) 0
  less sign Root = 2 * c + cond sign 0 (signed Root)
  less sign InverseRoot = cond sign (signed InverseRoot) 0

  parted : (sign : Bool) (op : Op) → gathered k op (unit sign) a c (h * a2) ≡ sub_ℕ (more sign op) (less sign op)
  parted sign Reciprocal = rw (times-unit sign (signed Reciprocal), less-diff)
  parted sign Root = rw (pos-less, times-unit sign (signed Root), diff-add)
  parted sign InverseRoot = rw (times-unit sign (signed InverseRoot), less-diff)

  same : (sign : Bool) (op : Op) → more sign op + taken k a a2 a3 h sign op ≡ added k a a2 a3 h sign op + less sign op
  unfolding added taken
  same true Reciprocal = omega arith
  same false Reciprocal = omega arith
  same true Root = omega arith
  same false Root = omega arith
  same true InverseRoot = omega arith
  same false InverseRoot = omega arith

  pub gathered-is : (sign : Bool) (op : Op) → gathered k op (unit sign) a c (h * a2) ≡ sum_over k op (unit sign) a a2 a3 h
  gathered-is sign op =
      parted sign op
      ∙ diff-eq (more sign op) (less sign op) (added k a a2 a3 h sign op) (taken k a a2 a3 h sign op) (same sign op)
      ∙ sym (difference k a a2 a3 h sign op)
