-- Step 3 in shorter numbers: a sum is a multiple of its first terms and the terms of its digits apart, which are worked out and divided
-- by themselves, so that none of the numbers has 5k bits. Assumes nothing.
use mathlib.Core.Path.{◌≡◌, ap, sym, ◌∙◌}
use mathlib.Core.Bool.{Bool, true, false, cond}
use mathlib.Core.List.{[], ◌∷◌}
use Prim.Native.Nat.{ℕ, ◌+◌, ◌*◌, ◌-◌, ◌/◌, ◌%◌, ◌^◌, ◌≤◌, ◌<◌}
use native.Mathlib.Nat.{mul-div-le, lt-mul-div-succ, mul-add-div, div-add-mod', div-div-eq-div-mul, div-eq_of_lt-le, div-lt_iff_lt-mul, div-le_of_le-mul, mul-le-mul_right, le_of_lt}
use native.Mathlib.Omega.{arith}
use lib.Dec.{T, le→leb, leb→le}
use lib.IntN.{ℤ, pos, nat_abs, sub_ℕ, ◌+ℤ◌, ◌-ℤ◌, ◌*ℤ◌}
use lib.Pow.{pow_pos, pow_mono}
use lib.Signed.{non_neg, yes_non_neg}
use Rattle.kinds.specs.declared.Op.{Op}
use Rattle.kinds.specs.declared.Op.TheVariants.{Reciprocal, Root, InverseRoot}
use Rattle.numbers.proofs.Differences.{diff-eq, diff-abs, diff-sign, diff-times, pos-less, less-diff, more-diff}
use Rattle.numbers.proofs.Exponents.{power-of}
use Rattle.significand.specs.Steps.{index_of, difference_of, digit2, digit3, carry_of, unit, sum_of, divisor_of, series_of}
use Rattle.significand.proofs.Sums.{times-unit, added, taken, difference, digits-below, sums}

-- the first terms of a sum, in units of 2^k for the reciprocal and of 8 · 2^k for the roots
abbrev pub whole_over : ℕ → Op → ℤ → ℕ → ℤ
whole_over k Reciprocal s a = pos (2 ^ (4 * k)) -ℤ s *ℤ pos a
whole_over k Root s a = pos (2 * 2 ^ (4 * k)) +ℤ s *ℤ pos a
whole_over k InverseRoot s a = pos (2 * 2 ^ (4 * k)) -ℤ s *ℤ pos a

-- the terms of its digits, which the root takes away
abbrev pub rest_over : ℕ → Op → ℤ → ℕ → ℕ → ℕ → ℤ
rest_over k Reciprocal s a2 a3 h = pos (2 ^ k) *ℤ pos (a2 * a2) +ℤ pos 2 *ℤ pos (a2 * a3) -ℤ s *ℤ pos (h * a2)
rest_over k Root s a2 a3 h = pos (2 * 2 ^ k) *ℤ pos (a2 * a2) +ℤ pos 4 *ℤ pos (a2 * a3) -ℤ s *ℤ pos (h * a2)
rest_over k InverseRoot s a2 a3 h = pos (6 * 2 ^ k) *ℤ pos (a2 * a2) +ℤ pos 12 *ℤ pos (a2 * a3) -ℤ pos 5 *ℤ (s *ℤ pos (h * a2))

abbrev pub whole_of : ℕ → Op → Bool → ℕ → ℤ
whole_of k op positive a = whole_over k op (unit positive) a

abbrev pub rest_of : ℕ → Op → Bool → ℕ → ℤ
rest_of k op positive a = rest_over k op (unit positive) (digit2 k a) (digit3 k a) (carry_of k (digit2 k a))

-- the series from both
abbrev pub joined : ℕ → Op → ℕ → ℕ → ℕ
joined k Reciprocal whole rest = whole + rest / 2 ^ k
joined k Root whole rest = (whole - (rest + (8 * 2 ^ k - 1)) / (8 * 2 ^ k)) / 2
joined k InverseRoot whole rest = (whole + rest / (8 * 2 ^ k)) / 2

-- what is taken from a multiple is divided rounding up
taken-from : (c w d : ℕ) → 0 < c → d ≤ c * w → (c * w - d) / c ≡ w - (d + (c - 1)) / c
taken-from c w d some fits =
    let q : ℕ = (d + (c - 1)) / c in
    let low : c * q ≤ d + (c - 1) = mul-div-le (d + (c - 1)) c in
    let high : d + (c - 1) < c * (q + 1) = lt-mul-div-succ (d + (c - 1)) some in
    let few : q < w + 1 = (div-lt_iff_lt-mul some).1 (omega arith) in
    let back : w - q + q ≡ w = omega arith in
    let whole : c * (w - q) + c * q ≡ c * w = omega (arith, ap (λ (n : ℕ). c * n) back) in
    div-eq_of_lt-le c (omega arith) (omega arith)

-- the magnitude of a difference that is not negative
natural : (a b : ℕ) → b ≤ a → nat_abs (sub_ℕ a b) + b ≡ a
natural a b h = omega (arith, diff-abs a b)

not-less : (a b : ℕ) → b ≤ a → T (non_neg (sub_ℕ a b))
not-less a b h = rw (diff-sign a b) (le→leb b a h)

order-of : (a b : ℕ) → T (non_neg (sub_ℕ a b)) → b ≤ a
order-of a b h = leb→le b a (rw (diff-sign a b) at h)

-- both parts as differences of what they add and what they take away
module _ (k a a2 a3 h : ℕ) where
  abbrev Z : ℕ
  Z = 2 ^ k

  abbrev N : ℕ
  N = 2 ^ (4 * k)

  module _ (sign : Bool) where
    abbrev up : ℕ → ℕ
    up n = cond sign n 0

    abbrev down : ℕ → ℕ
    down n = cond sign 0 n

    more-whole : Op → ℕ
    more-whole Reciprocal = N + down a
    more-whole Root = 2 * N + up a
    more-whole InverseRoot = 2 * N + down a

    less-whole : Op → ℕ
    less-whole Reciprocal = up a
    less-whole Root = down a
    less-whole InverseRoot = up a

    more-rest : Op → ℕ
    more-rest Reciprocal = Z * (a2 * a2) + 2 * (a2 * a3) + down (h * a2)
    more-rest Root = 2 * Z * (a2 * a2) + 4 * (a2 * a3) + down (h * a2)
    more-rest InverseRoot = 6 * Z * (a2 * a2) + 12 * (a2 * a3) + 5 * down (h * a2)

    less-rest : Op → ℕ
    less-rest Reciprocal = up (h * a2)
    less-rest Root = up (h * a2)
    less-rest InverseRoot = 5 * up (h * a2)

    whole_is : (op : Op) → whole_over k op (unit sign) a ≡ sub_ℕ (more-whole op) (less-whole op)
    unfolding more-whole less-whole
    whole_is Reciprocal = rw (times-unit sign a, less-diff)
    whole_is Root = rw (times-unit sign a, more-diff)
    whole_is InverseRoot = rw (times-unit sign a, less-diff)

    rest-is : (op : Op) → rest_over k op (unit sign) a2 a3 h ≡ sub_ℕ (more-rest op) (less-rest op)
    unfolding more-rest less-rest
    rest-is Reciprocal = rw (times-unit sign (h * a2), less-diff)
    rest-is Root = rw (times-unit sign (h * a2), less-diff)
    rest-is InverseRoot = rw (times-unit sign (h * a2), diff-times, less-diff)

  -- neither is negative where a is at most N and h·a2 at most 2^k·a2²
  whole-least : a ≤ N → (op : Op) (sign : Bool) → less-whole sign op ≤ more-whole sign op
  unfolding more-whole less-whole
  whole-least l Reciprocal true = omega arith
  whole-least l Reciprocal false = omega arith
  whole-least l Root true = omega arith
  whole-least l Root false = omega arith
  whole-least l InverseRoot true = omega arith
  whole-least l InverseRoot false = omega arith

  rest-least : h * a2 ≤ Z * (a2 * a2) → (op : Op) (sign : Bool) → less-rest sign op ≤ more-rest sign op
  unfolding more-rest less-rest
  rest-least l Reciprocal true = omega arith
  rest-least l Reciprocal false = omega arith
  rest-least l Root true = omega arith
  rest-least l Root false = omega arith
  rest-least l InverseRoot true = omega arith
  rest-least l InverseRoot false = omega arith

  -- the sum S from the magnitudes W and D of both
  module _ (W D S : ℕ) where
    Joins : Op → Type 0
    Joins Reciprocal = S ≡ Z * W + D
    Joins Root = S + D ≡ 8 * Z * W
    Joins InverseRoot = S ≡ 8 * Z * W + D

    joins : (op : Op) (sign : Bool) → W + less-whole sign op ≡ more-whole sign op → D + less-rest sign op ≡ more-rest sign op
        → S + taken k a a2 a3 h sign op ≡ added k a a2 a3 h sign op → Joins op
    unfolding Joins more-whole less-whole more-rest less-rest added taken
    joins Reciprocal true ew ed es = omega (arith, ap (λ (n : ℕ). Z * n) ew)
    joins Reciprocal false ew ed es = omega (arith, ap (λ (n : ℕ). Z * n) ew)
    joins Root true ew ed es = omega (arith, ap (λ (n : ℕ). Z * n) ew)
    joins Root false ew ed es = omega (arith, ap (λ (n : ℕ). Z * n) ew)
    joins InverseRoot true ew ed es = omega (arith, ap (λ (n : ℕ). Z * n) ew)
    joins InverseRoot false ew ed es = omega (arith, ap (λ (n : ℕ). Z * n) ew)

    -- so its quotient is theirs
    quotient : (op : Op) → Joins op → S / divisor_of k op ≡ joined k op W D
    unfolding Joins
    quotient Reciprocal e = ap (λ (n : ℕ). n / Z) e ∙ mul-add-div (pow_pos k) W D
    quotient Root e =
        halved ∙ ap (λ (n : ℕ). n / 2) (ap (λ (n : ℕ). n / (8 * Z)) rest ∙ taken-from (8 * Z) W D (omega (arith, pow_pos k)) (omega arith))
      where
        rest : S ≡ 8 * Z * W - D
        rest = omega arith

        halved : S / (16 * Z) ≡ S / (8 * Z) / 2
        halved = ap (λ (n : ℕ). S / n) (omega arith) ∙ sym (div-div-eq-div-mul S (8 * Z) 2)
    quotient InverseRoot e =
        halved ∙ ap (λ (n : ℕ). n / 2) (ap (λ (n : ℕ). n / (8 * Z)) e ∙ mul-add-div (omega (arith, pow_pos k)) W D)
      where
        halved : S / (16 * Z) ≡ S / (8 * Z) / 2
        halved = ap (λ (n : ℕ). S / n) (omega arith) ∙ sym (div-div-eq-div-mul S (8 * Z) 2)

-- every a of three digits
module _ (k a : ℕ) (h : 7 ≤ k) (below : a < 2 ^ (3 * k)) (op : Op) (sign : Bool) where
  abbrev a2 : ℕ
  a2 = digit2 k a

  abbrev a3 : ℕ
  a3 = digit3 k a

  abbrev carry : ℕ
  carry = carry_of k a2

  small : a ≤ 2 ^ (4 * k)
  small = omega (arith, below, pow_mono {i = 3 * k} {j = 4 * k} (omega arith))

  cube : carry * a2 ≤ 2 ^ k * (a2 * a2)
  cube =
      let few : carry ≤ a2 = div-le_of_le-mul (2 ^ k) (mul-le-mul_right a2 (le_of_lt (digits-below k a h below op sign).below2)) in
      omega (arith, mul-le-mul_right a2 few, mul-le-mul_right (a2 * a2) (pow_pos k))

  least-whole : less-whole k a a2 a3 carry sign op ≤ more-whole k a a2 a3 carry sign op
  least-whole = whole-least k a a2 a3 carry small op sign

  least-rest : less-rest k a a2 a3 carry sign op ≤ more-rest k a a2 a3 carry sign op
  least-rest = rest-least k a a2 a3 carry cube op sign

  whole-natural : nat_abs (whole_of k op sign a) + less-whole k a a2 a3 carry sign op ≡ more-whole k a a2 a3 carry sign op
  whole-natural = rw (whole_is k a a2 a3 carry sign op) (natural (more-whole k a a2 a3 carry sign op) (less-whole k a a2 a3 carry sign op) least-whole)

  pub whole-not-negative : T (non_neg (whole_of k op sign a))
  whole-not-negative = rw (whole_is k a a2 a3 carry sign op) (not-less _ _ least-whole)

  pub rest-not-negative : T (non_neg (rest_of k op sign a))
  rest-not-negative = rw (rest-is k a a2 a3 carry sign op) (not-less _ _ least-rest)

  fits : taken k a a2 a3 carry sign op ≤ added k a a2 a3 carry sign op
  unfolding sum_of
  fits = order-of _ _ (rw (difference k a a2 a3 carry sign op) at (yes_non_neg ((sums k a h below op).not_negative sign)))

  -- THE SERIES by its two parts
  pub series-joined : series_of k op sign a ≡ joined k op (nat_abs (whole_of k op sign a)) (nat_abs (rest_of k op sign a))
  unfolding sum_of
  series-joined =
      quotient k a a2 a3 carry _ _ _ op
      (joins k a a2 a3 carry _ _ _ op sign
      whole-natural
      (rw (rest-is k a a2 a3 carry sign op) (natural _ _ least-rest))
      (rw (difference k a a2 a3 carry sign op) (natural _ _ fits)))

-- the first terms of the root are at least 2 N − a
pub root-least : (k a : ℕ) → 7 ≤ k → a < 2 ^ (3 * k) → (sign : Bool) → 2 * 2 ^ (4 * k) ≤ nat_abs (whole_of k Root sign a) + a
unfolding more-whole less-whole
root-least k a h below true = omega (arith, whole-natural k a h below Root true)
root-least k a h below false = omega (arith, whole-natural k a h below Root false)

-- Step 2 in shorter numbers: with y = i w + f, where w is 2^(2k + t − 1), and with what R leaves of 2^(2k + 1), d is f R less w times that
module _ (k t y r : ℕ) (h : 1 ≤ k) where
  abbrev w : ℕ
  w = 2 ^ (2 * k + t - 1)

  pub difference-split : index_of k t y * r ≤ 2 ^ (2 * k + 1)
      → difference_of k t (y * r) ≡ pos (y % 2 ^ (2 * k + t - 1) * r) -ℤ pos ((2 ^ (2 * k + 1) - index_of k t y * r) * 2 ^ (2 * k + t - 1))
  unfolding index_of
  difference-split few =
      let parts : y ≡ y / w * w + y % w = omega (arith, div-add-mod' y w) in
      let power : 2 ^ (4 * k + t) ≡ 2 ^ (2 * k + 1) * w = power-of (4 * k + t) ((2 * k + 1) ∷ (2 * k + t - 1) ∷ []) (omega arith) in
      let left : 2 ^ (2 * k + 1) - y / w * r + y / w * r ≡ 2 ^ (2 * k + 1) = omega arith in
      rw (pos-less, pos-less)
      (diff-eq (y * r) (2 ^ (4 * k + t)) (y % w * r) ((2 ^ (2 * k + 1) - y / w * r) * w)
      (omega (arith, power, ap (λ (n : ℕ). n * r) parts, ap (λ (n : ℕ). n * w) left)))
