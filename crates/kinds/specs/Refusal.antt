-- The refusals, whose cases are those of `kinds::Refusal`, and their numbers; what a reply says in numbers; and questions whose "yes" gives a
-- value. Assumes nothing.
use Rattle.std.specs.Prelude.{ℕ, Bool, true, false, Result, Ok, Err}
use Rattle.kinds.specs.declared.Op.{Op}
use Rattle.kinds.specs.declared.Mode.{Mode}
use Rattle.kinds.specs.declared.Refusal.{Refusal}
use Rattle.kinds.specs.declared.Refusal.TheVariants as R
use Rattle.kinds.specs.Operation.{is_operation, op_of}
use Rattle.kinds.specs.Rounding.{is_rounding, mode_of}

-- the number of the question that is answered "no"
abbrev pub number_of : Refusal → ℕ
number_of R.Operation = 1
number_of R.Rounding = 2
number_of R.Significand = 3
number_of R.Parity = 4
number_of R.Short = 5
number_of R.MapLetters = 6
number_of R.Sides = 7
number_of R.Lengths = 8
number_of R.MapDistance = 9
number_of R.Height = 10
number_of R.Room = 11
number_of R.ListLetters = 12
number_of R.ListDistance = 13
number_of R.Index = 14
number_of R.Tables = 15
number_of R.Entry = 16

-- the number of a reply: 0 where it is an answer
abbrev pub refusal_of : {A : Type 0} → Result A Refusal → ℕ
refusal_of (Ok x) = 0
refusal_of (Err e) = number_of e

-- the answer of a reply: 0 after a refusal
abbrev pub answer_of : Result ℕ Refusal → ℕ
answer_of (Ok x) = x
answer_of (Err e) = 0

-- one question: a "yes" gives the value, a "no" the refusal
abbrev pub asked : {A : Type 0} → Bool → Refusal → A → Result A Refusal
asked true e x = Ok x
asked false e x = Err e

-- what follows an answer, where there is one
abbrev pub then : {A B : Type 0} → Result A Refusal → (A → Result B Refusal) → Result B Refusal
then (Ok x) f = f x
then (Err e) f = Err e

-- question 1, and the operation with this number
abbrev pub operation_asked : ℕ → Result Op Refusal
operation_asked n = asked (is_operation n) R.Operation (op_of n)

-- question 2, and the rounding with this number
abbrev pub rounding_asked : ℕ → Result Mode Refusal
rounding_asked n = asked (is_rounding n) R.Rounding (mode_of n)
