-- An operand is special or ordinary, and so is its answer. Assumes nothing.
use mathlib.Core.Path.{◌≡◌, refl, sym, ap, ◌∙◌}
use mathlib.Core.Bool.{Bool, true, false, cond, not, ◌&&◌, ◌||◌, true≢false}
use mathlib.Core.Logic.{by_cases}
use Prim.Native.Nat.{ℕ}
use native.Mathlib.Decide.{dec_lt}
use native.Mathlib.Omega.{arith}
use borrow.Author.Tests.{leb-false, eqb-false, lt-ltb, le-ltb, le-leb, lt-leb, eq-eqb, ne_eqb}
use lib.Dec.{eqb, ltb, leb}
use Rattle.kinds.specs.declared.Op.{Op}
use Rattle.kinds.specs.Operation.{is_reciprocal}
use Rattle.kinds.specs.declared.Mode.{Mode}
use Rattle.ieee.specs.Format.{Format, infinity}
use Rattle.ieee.specs.Answer.{Answer, is_special, to_finite, answer_to}
use Rattle.pattern.specs.Operand.{Ordinary}
use Rattle.special.specs.Special.{special_to}

-- the tests that tell a special operand, by the number of infinity and whether the operation is the reciprocal
pub special-is : (f : Format) (op : Op) (s t i : ℕ) (b : Bool) → i ≡ infinity f → b ≡ is_reciprocal op
    → leb i t || eqb t 0 || (eqb s 1 && not b) ≡ is_special f op s t
unfolding is_special
special-is f op s t i b e n = ap (λ (i : ℕ). leb i t || eqb t 0 || (eqb s 1 && not b)) e ∙ ap (λ (b : Bool). leb (infinity f) t || eqb t 0 || (eqb s 1 && not b)) n

-- an operand that is not special is finite and not zero
pub ordinary-is : (f : Format) (op : Op) (s t : ℕ) (b : Bool) → b ≡ is_special f op s t → b ≡ false → Ordinary f t
unfolding is_special
ordinary-is f op s t b p e =
    let n = none (leb (infinity f) t) (eqb t 0) (eqb s 1 && not (is_reciprocal op)) (sym p ∙ e) in
    record {
      finite = leb-false (infinity f) t n.0;
      some = by_cases (dec_lt 0 t) (λ l. l) (λ l. absurd (eqb-false t 0 n.1 (omega arith)));
    }
  where
    none : (i j k : Bool) → i || j || k ≡ false → (i ≡ false) × (j ≡ false)
    none false false k q = (refl, refl)
    none false true k q = absurd (true≢false q)
    none true j k q = absurd (true≢false q)

-- the tests of the answer, told apart in two steps
parted : (nan b z r i : Bool) (n v o j f : Answer)
    → cond nan n (cond (b && not z && not r) v (cond z o (cond i j f)))
    ≡ cond (nan || i || z || (b && not r)) (cond nan n (cond (b && not z && not r) v (cond z o j))) f
parted true b z r i n v o j f = refl
parted false true false false true n v o j f = refl
parted false true false false false n v o j f = refl
parted false true false true true n v o j f = refl
parted false true false true false n v o j f = refl
parted false true true r true n v o j f = refl
parted false true true r false n v o j f = refl
parted false false true r true n v o j f = refl
parted false false true r false n v o j f = refl
parted false false false r true n v o j f = refl
parted false false false r false n v o j f = refl

-- infinity or a NaN
from-infinity : (i t : ℕ) → ltb i t || eqb t i ≡ leb i t
from-infinity i t =
    by_cases (dec_lt i t) (λ l. rw (lt-ltb i t l, le-leb i t (omega arith)))
    (λ l.
    by_cases (dec_lt t i)
    (λ m. rw (le-ltb i t (omega arith), ne_eqb t i (λ e. omega arith), lt-leb i t m))
    (λ m. rw (le-ltb i t (omega arith), eq-eqb t i (omega arith), le-leb i t (omega arith))))

module _ (f : Format) (op : Op) (mode : Mode) (s t : ℕ) where
  answer-parted : answer_to f op mode s t ≡ cond (is_special f op s t) (special_to f op s t) (to_finite f op mode s t)
  unfolding is_special special_to
  answer-parted =
      parted (ltb (infinity f) t) (eqb s 1) (eqb t 0) (is_reciprocal op) (eqb t (infinity f)) _ _ _ _ _
      ∙ ap (λ (b : Bool). cond (b || eqb t 0 || eqb s 1 && not (is_reciprocal op)) (special_to f op s t) (to_finite f op mode s t)) (from-infinity (infinity f) t)

  pub special-parted : is_special f op s t ≡ true → answer_to f op mode s t ≡ special_to f op s t
  special-parted e = answer-parted ∙ rw e

  pub ordinary-parted : is_special f op s t ≡ false → answer_to f op mode s t ≡ to_finite f op mode s t
  ordinary-parted e = answer-parted ∙ rw e
