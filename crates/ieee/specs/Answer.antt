-- What an operation answers to a pattern: bits and flags, special operands first, in document 01's order. Assumes nothing.
use Rattle.std.specs.Prelude.{ℕ, ◌+◌, ◌*◌, ◌-◌, ◌/◌, ◌%◌, ◌^◌, Bool, cond, not, ◌&&◌, ◌||◌, leb, ltb, eqb}
use Rattle.kinds.specs.declared.Op.{Op}
use Rattle.kinds.specs.declared.Op.TheVariants.{Reciprocal, Root, InverseRoot}
use Rattle.kinds.specs.Operation.{is_reciprocal}
use Rattle.kinds.specs.declared.Mode.{Mode}
use Rattle.kinds.specs.Flag.{no_flag, invalid, division_by_zero}
use Rattle.ieee.specs.Format.{Format, sign_bit, infinity, quiet_nan, magnitude_of}
use Rattle.ieee.specs.Rounded.{rounded_of, flags_of}

-- a pattern and the flags that its operation raises
pub record Answer : Type 0 where
  pub bits : ℕ
  pub flags : ℕ

abbrev pub answer : ℕ → ℕ → Answer
answer b f = record { bits = b; flags = f }

-- the sign of a pattern, 0 or 1, and the pattern without it
abbrev pub sign_bit_of : Format → ℕ → ℕ
sign_bit_of f b = b / sign_bit f

abbrev pub unsigned : Format → ℕ → ℕ
unsigned f b = b % sign_bit f

-- a pattern without sign, given the sign s
abbrev pub with_sign_bit : Format → ℕ → ℕ → ℕ
with_sign_bit f s t = s * sign_bit f + t

-- operands that need no arithmetic: infinity or a NaN, zero, or a negative operand of a root
unfoldable pub is_special : Format → Op → ℕ → ℕ → Bool
is_special f op s t = leb (infinity f) t || eqb t 0 || eqb s 1 && not (is_reciprocal op)

-- NaN: a quiet NaN; a signalling one, whose top fraction bit is 0, also raises invalid
abbrev pub to_nan : Format → ℕ → Answer
to_nan f t = answer (quiet_nan f) (cond (ltb (t % 2 ^ f.fraction_bits) (2 ^ (f.fraction_bits - 1))) invalid no_flag)

-- zero: root gives the same zero, the others infinity of the same sign and division by zero
abbrev pub to_zero : Format → Op → ℕ → Answer
to_zero f Reciprocal s = answer (with_sign_bit f s (infinity f)) division_by_zero
to_zero f Root s = answer (with_sign_bit f s 0) no_flag
to_zero f InverseRoot s = answer (with_sign_bit f s (infinity f)) division_by_zero

-- infinity: reciprocal gives a zero of the same sign; plus infinity gives plus infinity (root) or plus zero (inverse root)
abbrev pub to_infinity : Format → Op → ℕ → Answer
to_infinity f Reciprocal s = answer (with_sign_bit f s 0) no_flag
to_infinity f Root s = answer (infinity f) no_flag
to_infinity f InverseRoot s = answer 0 no_flag

-- a finite operand that is not zero: the rounded result of its magnitude, with its sign
abbrev pub to_finite : Format → Op → Mode → ℕ → ℕ → Answer
to_finite f op mode s t =
    answer (with_sign_bit f s (rounded_of f op mode (eqb s 1) (magnitude_of f t))) (flags_of f op mode (eqb s 1) (magnitude_of f t))

-- the operand without its sign t, its sign s
abbrev pub answer_to : Format → Op → Mode → ℕ → ℕ → Answer
answer_to f op mode s t =
    cond (ltb (infinity f) t) (to_nan f t)
    (cond (eqb s 1 && not (eqb t 0) && not (is_reciprocal op)) (answer (quiet_nan f) invalid)
    (cond (eqb t 0) (to_zero f op s)
    (cond (eqb t (infinity f)) (to_infinity f op s)
    (to_finite f op mode s t))))

-- what the operation answers to the pattern b
unfoldable pub answer_of : Format → Op → Mode → ℕ → Answer
answer_of f op mode b = answer_to f op mode (sign_bit_of f b) (unsigned f b)
