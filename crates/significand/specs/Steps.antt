-- The raw unit, step by step, over the digit size k and the number t of bits below the three digits: a significand has 3k + t bits.
-- At k = 7 and t = 3, the numbers in brackets, these are document 01's steps. Assumes nothing.
use Rattle.std.specs.Prelude.{ℕ, ◌+◌, ◌*◌, ◌-◌, ◌/◌, ◌%◌, ◌^◌, Bool, true, false, ℤ, pos, negsuc, nat_abs, ◌+ℤ◌, ◌-ℤ◌, ◌*ℤ◌}
use Rattle.std.specs.Int.Signed.{non_neg}
use Rattle.kinds.specs.declared.Op.{Op}
use Rattle.kinds.specs.declared.Op.TheVariants.{Reciprocal, Root, InverseRoot}
use Rattle.numbers.specs.Nearest.{nearest_root}

-- 1. i is y over 2^(2k + t − 1), floored [2^16]; R is 2^(2k + 1) over i, floored [32,768]
unfoldable pub index_of : ℕ → ℕ → ℕ → ℕ
index_of k t y = y / 2 ^ (2 * k + t - 1)

unfoldable pub factor_of : ℕ → ℕ → ℕ
factor_of k i = 2 ^ (2 * k + 1) / i

-- 2. d is y × R − 2^(4k + t) [2^31]: here u is y × R
abbrev pub difference_of : ℕ → ℕ → ℕ → ℤ
difference_of k t u = pos u -ℤ pos (2 ^ (4 * k + t))

-- whether the sign s of d is +1, as it is for d = 0
unfoldable pub sign_of : ℕ → ℕ → ℕ → Bool
sign_of k t u = non_neg (difference_of k t u)

-- s itself, the whole number +1 or −1
abbrev pub unit : Bool → ℤ
unit true = pos 1
unit false = negsuc 0

-- a is |d| over 2^t, floored [8]
unfoldable pub reduced_of : ℕ → ℕ → ℕ → ℕ
reduced_of k t u = nat_abs (difference_of k t u) / 2 ^ t

-- the k-bit digits of a, highest first, and h, which is a2² over 2^k, floored
abbrev pub digit2 : ℕ → ℕ → ℕ
digit2 k a = a / 2 ^ (2 * k)

abbrev pub digit3 : ℕ → ℕ → ℕ
digit3 k a = a / 2 ^ k % 2 ^ k

abbrev pub digit4 : ℕ → ℕ → ℕ
digit4 k a = a % 2 ^ k

abbrev pub carry_of : ℕ → ℕ → ℕ
carry_of k a2 = a2 * a2 / 2 ^ k

-- 3. the sum of each series, over the sign s, a, a2, a3 and h, before its division
abbrev pub sum_over : ℕ → Op → ℤ → ℕ → ℕ → ℕ → ℕ → ℤ
sum_over k Reciprocal s a a2 a3 h =
    pos (2 ^ k) *ℤ (pos (2 ^ (4 * k)) -ℤ s *ℤ pos a +ℤ pos (a2 * a2)) +ℤ pos (2 * a2 * a3) -ℤ s *ℤ pos (h * a2)
sum_over k Root s a a2 a3 h =
    pos (16 * 2 ^ k * 2 ^ (4 * k)) +ℤ pos (8 * 2 ^ k) *ℤ (s *ℤ pos a) -ℤ pos (2 * 2 ^ k * a2 * a2) -ℤ pos (4 * a2 * a3) +ℤ s *ℤ pos (h * a2)
sum_over k InverseRoot s a a2 a3 h =
    pos (16 * 2 ^ k * 2 ^ (4 * k)) -ℤ pos (8 * 2 ^ k) *ℤ (s *ℤ pos a) +ℤ pos (6 * 2 ^ k * a2 * a2) +ℤ pos (12 * a2 * a3) -ℤ pos 5 *ℤ (s *ℤ pos (h * a2))

unfoldable pub sum_of : ℕ → Op → ℤ → ℕ → ℤ
sum_of k op s a = sum_over k op s a (digit2 k a) (digit3 k a) (carry_of k (digit2 k a))

-- what it is divided by [128 and 2,048]
abbrev pub divisor_of : ℕ → Op → ℕ
divisor_of k Reciprocal = 2 ^ k
divisor_of k Root = 16 * 2 ^ k
divisor_of k InverseRoot = 16 * 2 ^ k

-- the series b: the sum, which is never negative (the law `Sums.sums`), over its divisor, floored
abbrev pub series_of : ℕ → Op → Bool → ℕ → ℕ
series_of k op positive a = nat_abs (sum_of k op (unit positive) a) / divisor_of k op

-- 4. M by R and the parity p: the reciprocal's, exact; the whole number nearest to the exact one, which is √(2^(9k + 1 + p) / R) for the
-- root [64 + p] and √(R × 2^(8k) / 2^(k + 1 + p)) for the inverse root [56, 8 + p]
unfoldable pub multiplier_of : ℕ → Op → ℕ → ℕ → ℕ
multiplier_of k Reciprocal r p = r * 2 ^ (3 * k - 1)
multiplier_of k Root r p = nearest_root (4 * k + 2) r (2 ^ (9 * k + 1 + p))
multiplier_of k InverseRoot r p = nearest_root (4 * k + 2) (2 ^ (k + 1 + p)) (r * 2 ^ (8 * k))

-- 5. g is M × b over 2^(4k), floored [2^28]
unfoldable pub raw_of : ℕ → ℕ → Op → ℕ → ℕ → ℕ
raw_of k t op y p =
    let r = factor_of k (index_of k t y) in
    let u = y * r in
    multiplier_of k op r p * series_of k op (sign_of k t u) (reduced_of k t u) / 2 ^ (4 * k)
