-- Powers of two: what divides one is one. Assumes nothing.
use mathlib.Core.Path.{◌≡◌, refl, sym, ap, ap₂, ◌∙◌}
use mathlib.Core.Logic.{by_cases}
use Prim.Native.Nat.{ℕ, zero, suc, ◌+◌, ◌*◌, ◌/◌, ◌%◌, ◌^◌, ◌<◌}
use native.Mathlib.Nat.{pow-succ', mul_comm}
use native.Mathlib.Decide.{dec_lt, ℕ_discrete}
use native.Mathlib.Omega.{arith}
use lib.Pow.{pow-add, pow-lt, pow_mono}

-- a and b are powers of two whose exponents come to n
pub record PowersOfTwo (n a b : ℕ) : Type 0 where
  pub left : ℕ
  pub right : ℕ
  pub sum : left + right ≡ n
  pub left_is : a ≡ 2 ^ left
  pub right_is : b ≡ 2 ^ right

-- the order of powers is that of their exponents
pub power_below : (i j : ℕ) → 2 ^ i < 2 ^ j → i < j
power_below i j h = by_cases (dec_lt i j) (λ l. l) (λ l. omega (arith, pow_mono {i = j} {j = i} (omega arith)))

-- equal powers have equal exponents
pub power-same : (i j : ℕ) → 2 ^ i ≡ 2 ^ j → i ≡ j
power-same i j e =
    by_cases (dec_lt i j) (λ l. omega (arith, pow-lt l))
    (λ l. by_cases (dec_lt j i) (λ k. omega (arith, pow-lt k)) (λ k. omega arith))

-- exponents add up
pub power-sum : (i j n : ℕ) → i + j ≡ n → 2 ^ i * 2 ^ j ≡ 2 ^ n
power-sum i j n e = sym (pow-add 2 i j) ∙ ap (λ (k : ℕ). 2 ^ k) e

-- a power of four is the square of one of two
pub power-of-four : (k : ℕ) → 4 ^ k ≡ 2 ^ k * 2 ^ k
power-of-four zero = refl
power-of-four (suc k) = rw (pow-succ' 4 k, pow-succ' 2 k, power-of-four k) (omega arith)

-- where a × b is twice c and a is even, half of a serves for c
half-left : (a b c : ℕ) → a * b ≡ 2 * c → a % 2 ≡ 0 → a / 2 * b ≡ c
half-left a b c e z =
    let twice : a ≡ 2 * (a / 2) = omega arith in
    omega (arith, ap (λ (x : ℕ). x * b) twice)

-- a and b are not both odd then
pub odd-both : (a b c : ℕ) → a * b ≡ 2 * c → a % 2 ≡ 1 → b % 2 ≡ 1 → ⊥
odd-both a b c e y z =
    let p : a ≡ 1 + 2 * (a / 2) = omega arith in
    let q : b ≡ 1 + 2 * (b / 2) = omega arith in
    omega (arith, ap₂ (λ (x y : ℕ). x * y) p q)

-- the only factor of one is one
one-factor : (a b : ℕ) → a * b ≡ 1 → a ≡ 1
one-factor zero b e = omega arith
one-factor (suc zero) b e = refl
one-factor (suc (suc a)) zero e = omega arith
one-factor (suc (suc a)) (suc b) e = omega arith

-- two factors of a power of two are powers of two
pub powers-of-two : (n a b : ℕ) → a * b ≡ 2 ^ n → PowersOfTwo n a b
powers-of-two zero a b e = record { left = 0; right = 0; sum = refl; left_is = one-factor a b e; right_is = one-factor b a (mul_comm b a ∙ e) }
powers-of-two (suc n) a b e =
    by_cases (ℕ_discrete (a % 2) 0)
    (λ z. doubled-left z (powers-of-two n (a / 2) b (half-left a b (2 ^ n) (e ∙ pow-succ' 2 n) z)))
    (λ z. let y : b % 2 ≡ 0 = by_cases (ℕ_discrete (b % 2) 0) (λ y. y) (λ y. absurd (odd-both a b (2 ^ n) (e ∙ pow-succ' 2 n) (omega arith) (omega arith))) in
    doubled-right y (powers-of-two n a (b / 2) (omega (arith, half-left b a (2 ^ n) (mul_comm b a ∙ e ∙ pow-succ' 2 n) y))))
  where
    doubled-left : a % 2 ≡ 0 → PowersOfTwo n (a / 2) b → PowersOfTwo (suc n) a b
    doubled-left z p = record { left = suc p.left; right = p.right; sum = omega arith; left_is = omega (arith, pow-succ' 2 p.left); right_is = p.right_is }

    doubled-right : b % 2 ≡ 0 → PowersOfTwo n a (b / 2) → PowersOfTwo (suc n) a b
    doubled-right z p = record { left = p.left; right = suc p.right; sum = omega arith; left_is = p.left_is; right_is = omega (arith, pow-succ' 2 p.right) }
