-- The offset of a cutter's centre along one component of the normal, rounded once. Assumes nothing.
use Rattle.std.specs.Prelude.{ℕ, suc, ◌+◌, ◌*◌, ◌≡◌, Bool, leb, ℤ, nat_abs}
use Rattle.kinds.specs.declared.Mode.{Mode}
use Rattle.kinds.specs.Rounding.{Place, place_by, rounded_by}
use Rattle.numbers.specs.Greatest.{greatest}
use Rattle.words.specs.Signed.{with_sign, is_negative}

-- the squared length of the normal (−dx, −dy, 2·step)
abbrev pub squared_length : ℤ → ℤ → ℕ → ℕ
squared_length dx dy step = nat_abs dx * nat_abs dx + nat_abs dy * nat_abs dy + 4 * step * step

-- n over √q, floored: the greatest whole t below 2^32 with t²·q ≤ n²
unfoldable pub floor_over : ℕ → ℕ → ℕ
floor_over n q = greatest 32 (λ (t : ℕ). leb (t * t * q) (n * n))

-- where n over √q lies between the whole number t and the next
unfoldable pub place_over : ℕ → ℕ → ℕ → Place
place_over n q t = place_by (t * t * q) (n * n) ((t + suc t) * (t + suc t) * q) (4 * (n * n))

-- n over √q as a whole number, rounded for the sign given
unfoldable pub rounded_over : Mode → Bool → ℕ → ℕ → ℕ
rounded_over mode negative n q = rounded_by mode negative (floor_over n q) (place_over n q (floor_over n q))

-- component × radius over √q, rounded to a whole number
unfoldable pub offset_of : Mode → ℤ → ℕ → ℕ → ℤ
offset_of mode component radius q =
    with_sign (is_negative component) (rounded_over mode (is_negative component) (nat_abs component * radius) q)

-- n is a multiple of w
pub record MultipleOf (w n : ℕ) : Type 0 where
  pub quotient : ℕ
  pub is : quotient * w ≡ n
