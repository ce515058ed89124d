-- Replies by cases and replies in numbers: a question whose "yes" gives a value, and the same question in numbers. Assumes nothing.
use Rattle.std.specs.Prelude.{◌≡◌, refl, ℕ, ◌<◌, Bool, true, false, cond, [], ◌∷◌, get_or, Result, Ok, Err}
use Rattle.std.proofs.Common.{sym, ap, ◌∙◌}
use native.Mathlib.Omega.{arith}
use Rattle.kinds.specs.declared.Refusal.{Refusal}
use Rattle.kinds.specs.declared.Refusal.TheVariants as R
use Rattle.kinds.specs.Question.{ask, then_ask}
use Rattle.kinds.specs.Refusal.{number_of, refusal_of, answer_of, asked, then}
use Rattle.kinds.proofs.Questions.{then-first}

-- the number of a chain of questions is that of the first "no"
pub refusal-then :
    {A B : Type 0} (t : Bool) (e : Refusal) (x : A) (f : A → Result B Refusal) →
    refusal_of (then (asked t e x) f) ≡ ask t (number_of e) (refusal_of (f x))
unfolding ask
refusal-then true e x f = refl
refusal-then false e x f = refl

-- so is that of the last
pub refusal-asked : {A : Type 0} (t : Bool) (e : Refusal) (x : A) → refusal_of (asked t e x) ≡ ask t (number_of e) 0
unfolding ask
refusal-asked true e x = refl
refusal-asked false e x = refl

-- its answer is that of what follows, and 0 after a "no"
pub answer-then :
    {A : Type 0} (t : Bool) (e : Refusal) (x : A) (f : A → Result ℕ Refusal) →
    answer_of (then (asked t e x) f) ≡ cond t (answer_of (f x)) 0
answer-then true e x f = refl
answer-then false e x f = refl

-- no refusal has the number 0
pub number-positive : (e : Refusal) → 0 < number_of e
number-positive R.Operation = omega arith
number-positive R.Rounding = omega arith
number-positive R.Significand = omega arith
number-positive R.Parity = omega arith
number-positive R.Short = omega arith
number-positive R.MapLetters = omega arith
number-positive R.Sides = omega arith
number-positive R.Lengths = omega arith
number-positive R.MapDistance = omega arith
number-positive R.Height = omega arith
number-positive R.Room = omega arith
number-positive R.ListLetters = omega arith
number-positive R.ListDistance = omega arith
number-positive R.Index = omega arith
number-positive R.Tables = omega arith
number-positive R.Entry = omega arith

-- ---- a reply by its number

-- the refusal with a number
abbrev case_of : ℕ → Refusal
case_of n =
    get_or
    (R.Entry
    ∷ R.Operation
    ∷ R.Rounding
    ∷ R.Significand
    ∷ R.Parity
    ∷ R.Short
    ∷ R.MapLetters
    ∷ R.Sides
    ∷ R.Lengths
    ∷ R.MapDistance
    ∷ R.Height
    ∷ R.Room
    ∷ R.ListLetters
    ∷ R.ListDistance
    ∷ R.Index
    ∷ R.Tables
    ∷ [])
    n R.Entry

case-back : (e : Refusal) → case_of (number_of e) ≡ e
case-back R.Operation = refl
case-back R.Rounding = refl
case-back R.Significand = refl
case-back R.Parity = refl
case-back R.Short = refl
case-back R.MapLetters = refl
case-back R.Sides = refl
case-back R.Lengths = refl
case-back R.MapDistance = refl
case-back R.Height = refl
case-back R.Room = refl
case-back R.ListLetters = refl
case-back R.ListDistance = refl
case-back R.Index = refl
case-back R.Tables = refl
case-back R.Entry = refl

-- two refusals with one number are one
pub number-injective : (e f : Refusal) → number_of e ≡ number_of f → e ≡ f
number-injective e f h = sym (case-back e) ∙ ap case_of h ∙ case-back f

-- a reply with the number of a refusal is that refusal
pub refused-by : {A : Type 0} (r : Result A Refusal) (e : Refusal) → refusal_of r ≡ number_of e → r ≡ Err e
refused-by (Ok x) e h = absurd (let p : 0 < number_of e = number-positive e in omega arith)
refused-by (Err f) e h = ap Err (number-injective f e h)

-- one with none is the answer that it can be
pub answered-by : {A : Type 0} (r : Result A Refusal) (x : A) → refusal_of r ≡ 0 → ((y : A) → r ≡ Ok y → y ≡ x) → r ≡ Ok x
answered-by (Ok y) x z h = ap Ok (h y refl)
answered-by (Err e) x z h = absurd (let p : 0 < number_of e = number-positive e in omega arith)

-- where an answer can be one alone, the number of what follows is asked of that
pub refusal-after :
    {A B : Type 0} (r : Result A Refusal) (x : A) (f : A → Result B Refusal) → ((y : A) → r ≡ Ok y → y ≡ x) →
    refusal_of (then r f) ≡ then_ask (refusal_of r) (refusal_of (f x))
unfolding then_ask
refusal-after (Ok y) x f h = ap (λ z. refusal_of (f z)) (h y refl)
refusal-after (Err e) x f h = then-first (number_of e) (refusal_of (f x)) (number_of e) refl (λ z. let p : 0 < number_of e = number-positive e in omega arith)

-- so an answer is what follows from that
pub answered-after :
    {A B : Type 0} (r : Result A Refusal) (x : A) (f : A → Result B Refusal) (y : B) → ((z : A) → r ≡ Ok z → z ≡ x) → then r f ≡ Ok y → f x ≡ Ok y
answered-after (Ok z) x f y k h = sym (ap f (k z refl)) ∙ h
answered-after (Err e) x f y k h = cc

-- ---- an answer says that the questions were answered "yes"

pub asked-yes : {A : Type 0} (t : Bool) (e : Refusal) (x y : A) → asked t e x ≡ Ok y → (t ≡ true) × (x ≡ y)
asked-yes true e x y h = (refl, cc)
asked-yes false e x y h = cc

pub then-yes : {A B : Type 0} (t : Bool) (e : Refusal) (x : A) (f : A → Result B Refusal) (y : B) → then (asked t e x) f ≡ Ok y → (t ≡ true) × (f x ≡ Ok y)
then-yes true e x f y h = (refl, h)
then-yes false e x f y h = cc
