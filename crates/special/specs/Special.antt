-- The answers to operands that need no arithmetic, by the sign s and the pattern t without it. Assumes nothing.
use Rattle.std.specs.Prelude.{cond, not, ◌&&◌, ℕ, eqb, ltb}
use Rattle.kinds.specs.declared.Op.{Op}
use Rattle.kinds.specs.Operation.{is_reciprocal}
use Rattle.kinds.specs.Flag.{invalid}
use Rattle.ieee.specs.Format.{Format, infinity, quiet_nan}
use Rattle.ieee.specs.Answer.{Answer, answer, to_nan, to_zero, to_infinity}

-- the answer of a special operand, in document 01's order
unfoldable pub special_to : Format → Op → ℕ → ℕ → Answer
special_to f op s t =
    cond (ltb (infinity f) t) (to_nan f t)
    (cond (eqb s 1 && not (eqb t 0) && not (is_reciprocal op)) (answer (quiet_nan f) invalid)
    (cond (eqb t 0) (to_zero f op s)
    (to_infinity f op s)))
