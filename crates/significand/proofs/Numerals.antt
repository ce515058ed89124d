-- The numbered steps in the numbers of k = 7 and t = 3, as code and tables have them. Assumes nothing.
use mathlib.Core.Path.{◌≡◌, refl, sym}
use mathlib.Core.Bool.{Bool}
use Prim.Native.Nat.{ℕ, ◌+◌, ◌*◌, ◌/◌, ◌^◌, ◌<◌}
use native.Mathlib.Omega.{arith}
use lib.Dec.{T, eqb, eqb→eq}
use Rattle.kinds.specs.declared.Op.{Op}
use Rattle.kinds.specs.declared.Op.TheVariants.{Reciprocal, Root, InverseRoot}
use Rattle.numbers.proofs.Nearest.{nearest_test, nearest-tested}
use Rattle.significand.specs.Width.{k32, t32}
use Rattle.significand.specs.Steps.{index_of, factor_of, sign_of, reduced_of, sum_of, series_of, multiplier_of, raw_of}
use Rattle.significand.specs.Printed.{Sums, Printed}
use Rattle.significand.proofs.Sums.{sums}

-- 1. the index and R, whose table's test is over i and the entry
pub index_is : (y : ℕ) → index_of k32 t32 y ≡ y / 65536
unfolding index_of
index_is y = refl

abbrev pub factor_test : ℕ → ℕ → Bool
factor_test i w = eqb w (32768 / i)

pub factor-entry : (i w : ℕ) → T (factor_test i w) → w ≡ factor_of k32 i
unfolding factor_of
factor-entry i w t = eqb→eq w (32768 / i) t

-- 3. the sums, of every a of 21 bits
pub printed-sums : (op : Op) (a : ℕ) → a < 2 ^ 21 → Printed op a
unfolding sum_of
printed-sums op a h = go op (sums k32 a (omega arith) h op)
  where
    go : (op : Op) → Sums k32 op a → Printed op a
    go Reciprocal s = record { sum = λ positive. refl; not_negative = s.not_negative; both-signs = s.both-signs }
    go Root s = record { sum = λ positive. refl; not_negative = s.not_negative; both-signs = s.both-signs }
    go InverseRoot s = record { sum = λ positive. refl; not_negative = s.not_negative; both-signs = s.both-signs }

-- 4. M: for the reciprocal R × 2^20; for the roots a table, whose test is over the parity, i and the entry
pub reciprocal-multiplier : (r p : ℕ) → multiplier_of k32 Reciprocal r p ≡ r * 1048576
unfolding multiplier_of
reciprocal-multiplier r p = refl

abbrev pub root_test : ℕ → ℕ → ℕ → Bool
root_test p i w = nearest_test 30 (32768 / i) (2 ^ (64 + p)) w

pub root-entry : (p i w : ℕ) → T (root_test p i w) → w ≡ multiplier_of k32 Root (factor_of k32 i) p
unfolding factor_of multiplier_of
root-entry p i w t = sym (nearest-tested 30 (32768 / i) (2 ^ (64 + p)) w t)

abbrev pub inverse_root_test : ℕ → ℕ → ℕ → Bool
inverse_root_test p i w = nearest_test 30 (2 ^ (8 + p)) (32768 / i * 2 ^ 56) w

pub inverse-root-entry : (p i w : ℕ) → T (inverse_root_test p i w) → w ≡ multiplier_of k32 InverseRoot (factor_of k32 i) p
unfolding factor_of multiplier_of
inverse-root-entry p i w t = sym (nearest-tested 30 (2 ^ (8 + p)) (32768 / i * 2 ^ 56) w t)

-- 5. M times b of the reduced significand is the answer
pub answer-is : (op : Op) (y p r a m b g : ℕ) (s : Bool)
    → r ≡ factor_of k32 (y / 65536)
    → s ≡ sign_of k32 t32 (y * r)
    → a ≡ reduced_of k32 t32 (y * r)
    → b ≡ series_of k32 op s a
    → m ≡ multiplier_of k32 op r p
    → g ≡ m * b / 268435456
    → g ≡ raw_of k32 t32 op y p
unfolding raw_of
answer-is op y p r a m b g s er es ea eb em eg = rw index_is (cc)
