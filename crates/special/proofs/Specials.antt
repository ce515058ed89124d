-- The answers of operands that need no arithmetic, in order. Assumes nothing.
use mathlib.Core.Path.{◌≡◌}
use mathlib.Core.Bool.{Bool, true, false, cond, not, ◌&&◌}
use Prim.Native.Nat.{ℕ, ◌+◌, ◌*◌, ◌-◌, ◌%◌, ◌^◌, ◌≤◌, ◌<◌}
use native.Mathlib.Omega.{arith}
use borrow.Author.Tests.{lt-ltb, le-ltb, ne_eqb}
use lib.Dec.{eqb, ltb}
use lib.Pow.{pow_pos}
use Rattle.kinds.specs.declared.Op.{Op}
use Rattle.kinds.specs.Operation.{is_reciprocal}
use Rattle.kinds.specs.Flag.{no_flag, invalid}
use Rattle.ieee.specs.Format.{Format, sign_bit, infinity, least_normal, quiet_nan}
use Rattle.ieee.specs.Answer.{answer, to_zero, to_infinity}
use Rattle.pattern.specs.Answer.{Answered}
use Rattle.pattern.specs.declared.answer.Rounded.{Rounded}
use Rattle.special.specs.Special.{special_to}

-- plus zero is a pattern
pub zero_pattern : (f : Format) → 0 < 2 * sign_bit f
zero_pattern f = omega (arith, pow_pos (f.exponent_bits + f.fraction_bits))

module _ (f : Format) (op : Op) (s t i : ℕ) (r : Rounded) (at : i ≡ infinity f) where
  pub nan-answer : (n q : ℕ) → n ≡ least_normal f → q ≡ 2 ^ (f.fraction_bits - 1) → i < t
      → Answered f (answer (quiet_nan f) (cond (ltb (t % n) q) invalid no_flag)) r → Answered f (special_to f op s t) r
  unfolding special_to
  nan-answer n q en eq l e = rw (lt-ltb (infinity f) t (omega arith)) (rw (en, eq) at e)

  -- no NaN, b says whether the operation is the reciprocal
  module _ (b : Bool) (some : t ≤ i) (named : b ≡ is_reciprocal op) where
    pub invalid-answer : eqb s 1 && not (eqb t 0) && not b ≡ true → Answered f (answer (quiet_nan f) (cond true invalid no_flag)) r
        → Answered f (special_to f op s t) r
    unfolding special_to
    invalid-answer y e = rw (le-ltb (infinity f) t (omega arith), ← named, y) e

    pub zero-answer : eqb s 1 && not (eqb t 0) && not b ≡ false → t ≡ 0 → Answered f (to_zero f op s) r → Answered f (special_to f op s t) r
    unfolding special_to
    zero-answer n z e = rw (le-ltb (infinity f) t (omega arith), ← named, n, z) e

    pub infinity-answer : eqb s 1 && not (eqb t 0) && not b ≡ false → (t ≡ 0 → ⊥) → Answered f (to_infinity f op s) r → Answered f (special_to f op s t) r
    unfolding special_to
    infinity-answer n z e = rw (le-ltb (infinity f) t (omega arith), ← named, n, ne_eqb t 0 z) e
