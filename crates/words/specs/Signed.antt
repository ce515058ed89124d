-- Signed numbers: a word of 32 bits read as one, one written as a word, and one from its sign and magnitude. Assumes nothing.
use Rattle.std.specs.Prelude.{ℕ, suc, ◌-◌, ◌^◌, Bool, true, false, cond, ltb, ℤ, pos, negsuc, neg_ℤ, ◌-ℤ◌}

-- the number that a word stands for in two's complement
unfoldable pub signed : ℕ → ℤ
signed u = cond (ltb u (2 ^ 31)) (pos u) (pos u -ℤ pos (2 ^ 32))

-- the word of a number from −2^31 to 2^31 − 1
unfoldable pub word_of : ℤ → ℕ
word_of (pos n) = n
word_of (negsuc n) = 2 ^ 32 - suc n

-- the number with a sign and a magnitude
unfoldable pub with_sign : Bool → ℕ → ℤ
with_sign false n = pos n
with_sign true n = neg_ℤ (pos n)

-- whether a number is below 0
abbrev pub is_negative : ℤ → Bool
is_negative (pos n) = false
is_negative (negsuc n) = true
