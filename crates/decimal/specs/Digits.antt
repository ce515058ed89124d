-- Numbers as decimal text in ASCII, and the numbers that such text stands for. Assumes nothing.
use Rattle.std.specs.Prelude.{ℕ, zero, suc, ◌+◌, ◌-◌, ◌*◌, ◌/◌, ◌%◌, Bool, true, false, cond, List, [], ◌∷◌, ◌++◌, ltb, eqb, ℤ, pos, neg_ℤ, nat_abs}
use Rattle.words.specs.Signed.{is_negative}

-- the character of a digit below 10
abbrev pub digit : ℕ → ℕ
digit d = 48 + d

abbrev pub minus : ℕ
minus = 45

-- the digits of a number, the highest first, where it has at most n more than one
unfoldable pub digits_within : ℕ → ℕ → List ℕ
digits_within zero x = digit x ∷ []
digits_within (suc n) x = cond (ltb x 10) (digit x ∷ []) (digits_within n (x / 10) ++ digit (x % 10) ∷ [])

-- the digits of a number, the highest first, with no zero in front; there are never more than x of them above the first
unfoldable pub decimal : ℕ → List ℕ
decimal x = digits_within x x

-- a minus sign, or none
abbrev pub sign : Bool → List ℕ
sign true = minus ∷ []
sign false = []

-- a whole number: its magnitude, behind a minus sign where it is negative
unfoldable pub signed_decimal : ℤ → List ℕ
signed_decimal z = sign (is_negative z) ++ decimal (nat_abs z)

-- the number that digits stand for, read behind those of v
unfoldable pub value_from : ℕ → List ℕ → ℕ
value_from v [] = v
value_from v (b ∷ s) = value_from (10 * v + (b - 48)) s

-- the number that digits stand for
abbrev pub value_of : List ℕ → ℕ
value_of s = value_from 0 s

-- the whole number that digits stand for, with a minus sign in front of them or none
abbrev pub signed_value_of : List ℕ → ℤ
signed_value_of [] = pos 0
signed_value_of (b ∷ s) = cond (eqb b minus) (neg_ℤ (pos (value_of s))) (pos (value_of (b ∷ s)))
