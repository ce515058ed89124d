-- The sums of step 3 as the code works them, in 64-bit signed numbers: each is the printed one. Assumes nothing.
use mathlib.Core.Path.{◌≡◌, ap, ◌∙◌}
use mathlib.Core.Bool.{Bool}
use Prim.Native.Nat.{ℕ, ◌+◌, ◌*◌, ◌/◌, ◌^◌, ◌≤◌, ◌<◌}
use native.Mathlib.Omega.{arith}
use lib.Dec.{T}
use lib.IntN.{ℤ, nat_abs}
use lib.Signed.{non_neg, yes_non_neg}
use mir.Syntax.{w64}
use mir.Val.{Fits}
use Rattle.kinds.specs.declared.Op.{Op}
use Rattle.kinds.specs.declared.Op.TheVariants.{Reciprocal, Root, InverseRoot}
use Rattle.numbers.proofs.Signed.{X, ◌⊞◌, ◌⊟◌, ◌⊠◌, value, operand, top, fine, held, bounded}
use Rattle.significand.specs.Width.{k32}
use Rattle.significand.specs.Steps.{unit, digit2, digit3, carry_of, sum_of, series_of, divisor_of}
use Rattle.significand.proofs.Numerals.{printed-sums}
use Rattle.series.specs.declared.Terms.{Terms}
use Rattle.series.specs.Parts.{TermsOf}
use Rattle.series.proofs.Gathered.{gathered, gathered-is}
use Rattle.series.proofs.Steps.{sign, linear, cross, cube, #, tops, numbers, within}

-- the sums
abbrev pub sum_x : Op → X
sum_x Reciprocal = # 34359738368 ⊞ cross ⊟ sign ⊠ (# 128 ⊠ linear ⊞ cube)
sum_x Root = # 549755813888 ⊟ # 2 ⊠ cross ⊞ sign ⊠ (# 1024 ⊠ linear ⊞ cube)
sum_x InverseRoot = # 549755813888 ⊞ # 6 ⊠ cross ⊟ sign ⊠ (# 1024 ⊠ linear ⊞ # 5 ⊠ cube)

fine-sum : (op : Op) → T (fine (tops k32) (sum_x op))
fine-sum Reciprocal = tt
fine-sum Root = tt
fine-sum InverseRoot = tt

top_small : (op : Op) → top (tops k32) (sum_x op) < 2 ^ 64
top_small Reciprocal = omega arith
top_small Root = omega arith
top_small InverseRoot = omega arith

quotient-small : (op : Op) (n : ℕ) → n ≤ top (tops k32) (sum_x op) → n / divisor_of k32 op < 2 ^ 29
quotient-small Reciprocal n h = omega arith
quotient-small Root n h = omega arith
quotient-small InverseRoot n h = omega arith

module _ (positive : Bool) (a : ℕ) (t : Terms) (h : TermsOf k32 positive a t) where
  gathered-value : (op : Op)
      → value (numbers t) (sum_x op)
      ≡ gathered k32 op (unit positive) a (128 * (digit2 k32 a * digit2 k32 a) + 2 * (digit2 k32 a * digit3 k32 a)) (carry_of k32 (digit2 k32 a) * digit2 k32 a)
  gathered-value Reciprocal = rw (h.sign, h.linear, h.cross, h.cube)
  gathered-value Root = rw (h.sign, h.linear, h.cross, h.cube)
  gathered-value InverseRoot = rw (h.sign, h.linear, h.cross, h.cube)

  value-is : (op : Op) → value (numbers t) (sum_x op) ≡ sum_of k32 op (unit positive) a
  unfolding sum_of
  value-is op = gathered-value op ∙ gathered-is k32 a (digit2 k32 a) (digit3 k32 a) (carry_of k32 (digit2 k32 a)) positive op

-- the sum is that of step 3 and not negative, and its quotient is the series, of 29 bits
module _ (op : Op) (positive : Bool) (a : ℕ) (t : Terms) (below : a < 2097152) (h : TermsOf k32 positive a t) where
  abbrev sum : ℤ
  sum = operand (numbers t) (sum_x op)

  pub sum_is : sum ≡ sum_of k32 op (unit positive) a
  sum_is = held (numbers t) (tops k32) (within k32 (omega arith) positive a t below h) (sum_x op) (fine-sum op) ∙ value-is positive a t h op

  most : nat_abs sum ≤ top (tops k32) (sum_x op)
  most = bounded (numbers t) (tops k32) (within k32 (omega arith) positive a t below h) (sum_x op) (fine-sum op)

  pub not_negative : T (non_neg sum)
  not_negative = rw sum_is (yes_non_neg ((printed-sums op a below).not_negative positive))

  pub unsigned-fits : Fits w64 (nat_abs sum)
  unsigned-fits = record { fits = omega (arith, most, top_small op) }

  pub series-is : nat_abs sum / divisor_of k32 op ≡ series_of k32 op positive a
  series-is = ap (λ (z : ℤ). nat_abs z / divisor_of k32 op) sum_is

  pub series-small : nat_abs sum / divisor_of k32 op < 2 ^ 29
  series-small = quotient-small op (nat_abs sum) most
