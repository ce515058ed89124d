-- The series at k = 15 as the code works them, in 64-bit signed numbers: the two parts of each sum, joined. Assumes nothing.
use mathlib.Core.Path.{◌≡◌, sym, ap, ap₂, ◌∙◌}
use mathlib.Core.Bool.{Bool}
use Prim.Native.Nat.{ℕ, ◌+◌, ◌*◌, ◌/◌, ◌^◌, ◌≤◌, ◌<◌}
use native.Mathlib.Nat.{div-le_self}
use native.Mathlib.Omega.{arith}
use lib.Dec.{T}
use lib.IntN.{ℤ, nat_abs}
use lib.Signed.{non_neg}
use mir.Syntax.{w64}
use mir.Val.{Fits}
use Rattle.kinds.specs.declared.Op.{Op}
use Rattle.kinds.specs.declared.Op.TheVariants.{Reciprocal, Root, InverseRoot}
use Rattle.numbers.proofs.Signed.{X, ◌⊞◌, ◌⊟◌, ◌⊠◌, value, operand, top, fine, held, bounded}
use Rattle.significand.specs.Width.{k64}
use Rattle.significand.specs.Steps.{digit2, digit3, series_of}
use Rattle.significand.proofs.Split.{whole_of, rest_of, joined, whole-not-negative, rest-not-negative, root-least, series-joined}
use Rattle.series.specs.declared.Terms.{Terms}
use Rattle.series.specs.Parts.{TermsOf}
use Rattle.series.proofs.Steps.{sign, linear, cross, cube, #, tops, numbers, within}

-- the two parts of each sum
abbrev pub whole_x : Op → X
whole_x Reciprocal = # 1152921504606846976 ⊟ sign ⊠ linear
whole_x Root = # 2305843009213693952 ⊞ sign ⊠ linear
whole_x InverseRoot = # 2305843009213693952 ⊟ sign ⊠ linear

abbrev pub rest_x : Op → X
rest_x Reciprocal = cross ⊟ sign ⊠ cube
rest_x Root = # 2 ⊠ cross ⊟ sign ⊠ cube
rest_x InverseRoot = # 6 ⊠ cross ⊟ # 5 ⊠ (sign ⊠ cube)

whole-fine : (op : Op) → T (fine (tops k64) (whole_x op))
whole-fine Reciprocal = tt
whole-fine Root = tt
whole-fine InverseRoot = tt

rest-fine : (op : Op) → T (fine (tops k64) (rest_x op))
rest-fine Reciprocal = tt
rest-fine Root = tt
rest-fine InverseRoot = tt

-- how large they are, and what they are joined to
joined_small : (op : Op) (w r : ℕ) → w ≤ top (tops k64) (whole_x op) → r ≤ top (tops k64) (rest_x op) → joined k64 op w r < 2 ^ 61
joined_small Reciprocal w r i j = omega arith
joined_small Root w r i j = omega arith
joined_small InverseRoot w r i j = omega arith

whole_top : (op : Op) → top (tops k64) (whole_x op) < 2 ^ 62
whole_top Reciprocal = omega arith
whole_top Root = omega arith
whole_top InverseRoot = omega arith

rest-top : (op : Op) → top (tops k64) (rest_x op) < 2 ^ 49
rest-top Reciprocal = omega arith
rest-top Root = omega arith
rest-top InverseRoot = omega arith

module _ (op : Op) (positive : Bool) (a : ℕ) (t : Terms) (below : a < 2 ^ 45) (h : TermsOf k64 positive a t) where
  abbrev whole : ℤ
  whole = operand (numbers t) (whole_x op)

  abbrev rest : ℤ
  rest = operand (numbers t) (rest_x op)

  whole-value : (op : Op) → value (numbers t) (whole_x op) ≡ whole_of k64 op positive a
  whole-value Reciprocal = rw (h.sign, h.linear)
  whole-value Root = rw (h.sign, h.linear)
  whole-value InverseRoot = rw (h.sign, h.linear)

  abbrev squared : ℕ
  squared = digit2 k64 a * digit2 k64 a

  abbrev crossed : ℕ
  crossed = digit2 k64 a * digit3 k64 a

  rest-value : (op : Op) → value (numbers t) (rest_x op) ≡ rest_of k64 op positive a
  rest-value Reciprocal = rw (h.sign, h.cross, h.cube)
  rest-value Root =
      let twice : 2 * (32768 * squared + 2 * crossed) ≡ 65536 * squared + 4 * crossed = omega arith in
      rw (h.sign, h.cross, h.cube, ← twice)
  rest-value InverseRoot =
      let six : 6 * (32768 * squared + 2 * crossed) ≡ 196608 * squared + 12 * crossed = omega arith in
      rw (h.sign, h.cross, h.cube, ← six)

  whole_is : whole ≡ whole_of k64 op positive a
  whole_is = held (numbers t) (tops k64) (within k64 (omega arith) positive a t below h) (whole_x op) (whole-fine op) ∙ whole-value op

  rest-is : rest ≡ rest_of k64 op positive a
  rest-is = held (numbers t) (tops k64) (within k64 (omega arith) positive a t below h) (rest_x op) (rest-fine op) ∙ rest-value op

  whole-upto : nat_abs whole ≤ top (tops k64) (whole_x op)
  whole-upto = bounded (numbers t) (tops k64) (within k64 (omega arith) positive a t below h) (whole_x op) (whole-fine op)

  rest-upto : nat_abs rest ≤ top (tops k64) (rest_x op)
  rest-upto = bounded (numbers t) (tops k64) (within k64 (omega arith) positive a t below h) (rest_x op) (rest-fine op)

  whole-most : nat_abs whole < 2 ^ 62
  whole-most = omega (arith, whole_top op, whole-upto)

  rest-most : nat_abs rest < 2 ^ 49
  rest-most = omega (arith, rest-top op, rest-upto)

  -- neither is negative, and both fit
  pub whole-positive : T (non_neg whole)
  whole-positive = rw whole_is (whole-not-negative k64 a (omega arith) below op positive)

  pub rest-positive : T (non_neg rest)
  rest-positive = rw rest-is (rest-not-negative k64 a (omega arith) below op positive)

  pub whole-unsigned : Fits w64 (nat_abs whole)
  whole-unsigned = record { fits = omega (arith, whole-most) }

  pub rest-unsigned : Fits w64 (nat_abs rest)
  rest-unsigned = record { fits = omega (arith, rest-most) }

  -- joined, they are the series
  pub series-is : joined k64 op (nat_abs whole) (nat_abs rest) ≡ series_of k64 op positive a
  series-is =
      ap₂ (joined k64 op) (ap nat_abs whole_is) (ap nat_abs rest-is) ∙ sym (series-joined k64 a (omega arith) below op positive)

  pub series-small : joined k64 op (nat_abs whole) (nat_abs rest) < 2 ^ 61
  series-small = joined_small op (nat_abs whole) (nat_abs rest) whole-upto rest-upto

  -- and nothing overflows where they are joined
  pub sum_fits : (d : ℕ) → Fits w64 (nat_abs whole + nat_abs rest / d)
  sum_fits d = record { fits = omega (arith, whole-most, rest-most, div-le_self (nat_abs rest) d) }

  pub rest-fits : (n : ℕ) → n < 2 ^ 32 → Fits w64 (nat_abs rest + n)
  rest-fits n few = record { fits = omega (arith, rest-most) }

-- what the root takes away is no more than there is
pub rest-room : (n : ℕ) → n < 2 ^ 32 → (positive : Bool) (a : ℕ) (t : Terms) → a < 2 ^ 45 → TermsOf k64 positive a t
    → (nat_abs (operand (numbers t) (rest_x Root)) + n) / 262144 ≤ nat_abs (operand (numbers t) (whole_x Root))
rest-room n few positive a t below h =
    omega (
      arith,
      rest-most Root positive a t below h,
      ap nat_abs (whole_is Root positive a t below h),
      root-least k64 a (omega arith) below positive,
    )
