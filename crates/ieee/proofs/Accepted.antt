-- What a call answers where it is accepted, and where it is refused. Assumes nothing.
use mathlib.Core.Path.{◌≡◌, ◌∙◌}
use mathlib.Core.Bool.{Bool}
use mathlib.Core.Logic.{by_cases}
use Prim.Native.Nat.{ℕ, ◌%◌, ◌≤◌, ◌<◌, zero-le}
use native.Mathlib.Decide.{ℕ_discrete}
use lib.Dec.{T}
use lib.Bits.{bit_or}
use borrow.Author.Tests.{ne_eqb}
use Rattle.kinds.specs.declared.Op.{Op}
use Rattle.kinds.specs.declared.Mode.{Mode}
use Rattle.kinds.specs.Operation.{is_operation}
use Rattle.kinds.specs.Rounding.{is_rounding}
use Rattle.kinds.specs.Question.{ask}
use Rattle.kinds.proofs.Questions.{yes, asked}
use Rattle.ieee.specs.Format.{Format, infinity}
use Rattle.ieee.specs.Answer.{answer_of}
use Rattle.ieee.specs.Call.{bits_of, status_of, binary32_refusal}
use Rattle.ieee.proofs.Finite.{answer-within}

-- the two questions, each worked out by itself
pub refusal_is : (operation rounding q r : ℕ) (known mode : Bool) → known ≡ is_operation operation → mode ≡ is_rounding rounding
    → q ≡ ask mode 2 0 → r ≡ ask known 1 q → r ≡ binary32_refusal operation rounding
unfolding binary32_refusal
refusal_is operation rounding q r known mode ek em eq e = rw (e, eq, em, ek)

-- a call with a known operation and a known rounding is accepted
pub unrefused : (operation rounding : ℕ) → T (is_operation operation) → T (is_rounding rounding) → binary32_refusal operation rounding ≡ 0
unfolding binary32_refusal
unrefused operation rounding h k = asked (is_operation operation) 1 (ask (is_rounding rounding) 2 0) h ∙ asked (is_rounding rounding) 2 0 k

-- and one that is accepted has both
pub accepted : (operation rounding : ℕ) → binary32_refusal operation rounding ≡ 0 → T (is_operation operation) × T (is_rounding rounding)
unfolding binary32_refusal
accepted operation rounding e =
    let first = yes (is_operation operation) 0 (ask (is_rounding rounding) 2 0) e in (first.0, (yes (is_rounding rounding) 1 0 first.1).0)

module _ (f : Format) (n : ℕ) (op : Op) (mode : Mode) (b : ℕ) where
  -- an accepted call gives the answer's bits, and joins the answer's flags to the status
  pub accepted-bits : n ≡ 0 → bits_of f n op mode b ≡ (answer_of f op mode b).bits
  unfolding bits_of
  accepted-bits e = rw e

  pub accepted-status : n ≡ 0 → (status : ℕ) → status_of f n op mode b status ≡ bit_or (status % 32) (answer_of f op mode b).flags
  unfolding status_of
  accepted-status e status = rw e

  -- a refused call gives 0, and the status as it was
  pub refused-bits : (n ≡ 0 → ⊥) → bits_of f n op mode b ≡ 0
  unfolding bits_of
  refused-bits h = rw (ne_eqb n 0 h)

  pub refused-status : (n ≡ 0 → ⊥) → (status : ℕ) → status_of f n op mode b status ≡ status
  unfolding status_of
  refused-status h status = rw (ne_eqb n 0 h)

  -- to a positive number, to zero and to infinity, accepted or not, it gives the pattern of no NaN
  pub bits-within : 0 < f.exponent_bits → b ≤ infinity f → bits_of f n op mode b ≤ infinity f
  bits-within some h =
      by_cases (ℕ_discrete n 0) (λ e. rw (accepted-bits e) (answer-within f op mode b some h)) (λ e. rw (refused-bits e) zero-le)
