-- The answer to a pattern by its sign and the rest, and to a positive finite one, whose magnitude is rounded; a positive one's is no NaN.
-- Assumes nothing.
use mathlib.Core.Path.{◌≡◌}
use mathlib.Core.Bool.{Bool, false, true, cond}
use mathlib.Core.Logic.{by_cases}
use Prim.Native.Nat.{ℕ, suc, ◌%◌, ◌≤◌, ◌<◌}
use native.Mathlib.Nat.{div-eq_of_lt, mod-eq_of_lt, zero-mul, zero-add}
use native.Mathlib.Decide.{ℕ_discrete}
use native.Mathlib.Omega.{arith}
use lib.Dec.{eqb}
use borrow.Author.Tests.{le-ltb, eq-eqb, ne_eqb}
use Rattle.kinds.specs.declared.Op.{Op}
use Rattle.kinds.specs.declared.Mode.{Mode}
use Rattle.kinds.specs.declared.Op.TheVariants.{Reciprocal, Root, InverseRoot}
use Rattle.kinds.specs.Rounding.{away, rounded_by}
use Rattle.ieee.specs.Format.{Format, sign_bit, infinity, magnitude_of}
use Rattle.ieee.specs.Rounded.{lower_of, place_at, rounded_of, flags_of}
use Rattle.ieee.specs.Answer.{answer, sign_bit_of, unsigned, to_zero, to_infinity, answer_to, answer_of}
use Rattle.ieee.proofs.Neighbours.{infinity-below, lower-found}

-- the sign and the rest say all
pub answer-parts : (f : Format) (op : Op) (mode : Mode) (b s t : ℕ) → sign_bit_of f b ≡ s → unsigned f b ≡ t
    → answer_of f op mode b ≡ answer_to f op mode s t
unfolding answer_of
answer-parts f op mode b s t p q = rw (p, q)

-- none of the special operands' rules applies
pub finite-answer : (f : Format) (op : Op) (mode : Mode) (t : ℕ) → 0 < t → t < infinity f
    → answer_of f op mode t ≡ answer (rounded_of f op mode false (magnitude_of f t)) (flags_of f op mode false (magnitude_of f t))
unfolding answer_of
finite-answer f op mode t p h =
    let whole : t < sign_bit f = omega (arith, infinity-below f) in
    rw (div-eq_of_lt whole, mod-eq_of_lt whole, le-ltb (infinity f) t (omega arith), ne_eqb t 0 (omega arith), ne_eqb t (infinity f) (omega arith), zero-mul, zero-add)

-- the lower neighbour is finite, so no rounded result is above infinity
rounded-within : (f : Format) (op : Op) (mode : Mode) (negative : Bool) (x : ℕ) → 0 < f.exponent_bits → rounded_of f op mode negative x ≤ infinity f
unfolding rounded_of rounded_by
rounded-within f op mode negative x some = one (away mode negative (eqb (lower_of f op x % 2) 1) (place_at f op x (lower_of f op x)))
  where
    one : (b : Bool) → cond b (suc (lower_of f op x)) (lower_of f op x) ≤ infinity f
    one true = omega (arith, (lower-found f op x some).finite)
    one false = omega (arith, (lower-found f op x some).finite)

-- the answer to a positive number, to zero or to infinity is no NaN and has no sign
pub answer-within : (f : Format) (op : Op) (mode : Mode) (t : ℕ) → 0 < f.exponent_bits → t ≤ infinity f → (answer_of f op mode t).bits ≤ infinity f
unfolding answer_of
answer-within f op mode t some h =
    let whole : t < sign_bit f = omega (arith, infinity-below f) in
    rw (div-eq_of_lt whole, mod-eq_of_lt whole, le-ltb (infinity f) t h)
    (by_cases (ℕ_discrete t 0)
    (λ e. rw (eq-eqb t 0 e) (zero-within op))
    (λ e. rw (ne_eqb t 0 e)
    (by_cases (ℕ_discrete t (infinity f))
    (λ i. rw (eq-eqb t (infinity f) i) (infinity-within op))
    (λ i. rw (ne_eqb t (infinity f) i, zero-mul, zero-add) (rounded-within f op mode false (magnitude_of f t) some)))))
  where
    zero-within : (op : Op) → (to_zero f op 0).bits ≤ infinity f
    zero-within Reciprocal = omega arith
    zero-within Root = omega arith
    zero-within InverseRoot = omega arith

    infinity-within : (op : Op) → (to_infinity f op 0).bits ≤ infinity f
    infinity-within Reciprocal = omega arith
    infinity-within Root = omega arith
    infinity-within InverseRoot = omega arith
