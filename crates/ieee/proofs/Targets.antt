-- How large a floor with a guard bit is: from 2^(m + 1) to 2^(m + 2), and that only where nothing is over. Assumes nothing.
use mathlib.Core.Path.{◌≡◌, ap}
use mathlib.Core.List.{[], ◌∷◌}
use Prim.Native.Nat.{ℕ, zero, suc, ◌+◌, ◌*◌, ◌-◌, ◌^◌, ◌≤◌, ◌<◌}
use native.Mathlib.Nat.{le_of_mul-le-mul_left, lt_of_mul-lt-mul_left, mul-lt-mul_of_pos_left, mul-le-mul_left, mul-le-mul_right, mul-pos, pow-suc, le_of_lt}
use native.Mathlib.Omega.{arith}
use lib.Pow.{pow_pos}
use Rattle.kinds.specs.declared.Op.{Op}
use Rattle.kinds.specs.declared.Op.TheVariants.{Reciprocal, Root, InverseRoot}
use Rattle.numbers.proofs.Exponents.{power-of}
use Rattle.numbers.proofs.Squares.{square-below}
use Rattle.ieee.specs.Rounded.{side}
use Rattle.ieee.specs.Floor.{target_of}

-- the targets over A, which is 2^m
module _ (m y : ℕ) where
  abbrev A : ℕ
  A = 2 ^ m

  reciprocal-target : 2 ^ (2 * m + 2) ≡ 4 * (A * A)
  reciprocal-target = omega (arith, power-of (2 * m + 2) (2 ∷ m ∷ m ∷ []) (omega arith))

  root-target : (p : ℕ) → y * 2 ^ (m + 2 + p) ≡ 4 * (A * y) * 2 ^ p
  root-target p = omega (arith, ap (λ (n : ℕ). y * n) (power-of (m + 2 + p) (2 ∷ m ∷ p ∷ []) (omega arith)))

  inverse-even : 2 ^ (3 * m + 4 - 0) ≡ 16 * (A * A * A)
  inverse-even = omega (arith, power-of (3 * m + 4 - 0) (4 ∷ m ∷ m ∷ m ∷ []) (omega arith))

  inverse-odd : 2 ^ (3 * m + 4 - 1) ≡ 8 * (A * A * A)
  inverse-odd = omega (arith, power-of (3 * m + 4 - 1) (3 ∷ m ∷ m ∷ m ∷ []) (omega arith))

  inverse-least : (p : ℕ) → p ≤ 1 → 8 * (A * A * A) ≤ 2 ^ (3 * m + 4 - p)
  inverse-least zero h = omega (arith, inverse-even)
  inverse-least (suc zero) h = omega (arith, inverse-odd)
  inverse-least (suc (suc p)) h = absurd (omega arith)

  inverse-most : (p : ℕ) → p ≤ 1 → 2 ^ (3 * m + 4 - p) ≤ 16 * (A * A * A)
  inverse-most zero h = omega (arith, inverse-even)
  inverse-most (suc zero) h = omega (arith, inverse-odd)
  inverse-most (suc (suc p)) h = absurd (omega arith)

  parity-most : (p : ℕ) → p ≤ 1 → 2 ^ p ≤ 2
  parity-most zero h = omega arith
  parity-most (suc zero) h = omega arith
  parity-most (suc (suc p)) h = absurd (omega arith)

  -- a significand has m + 1 bits
  module _ (p q : ℕ) (parity : p ≤ 1) (least : A ≤ y) (below : y < 2 * A) where
    root-most : 4 * (A * y) * 2 ^ p < 16 * (A * A)
    root-most = omega (arith, mul-le-mul_left (4 * (A * y)) (parity-most p parity), mul-lt-mul_of_pos_left {k = A} below (pow_pos m))

    root-least : 4 * (A * A) ≤ 4 * (A * y) * 2 ^ p
    root-least = omega (arith, mul-le-mul_left (4 * (A * y)) (pow_pos p), mul-le-mul_left A least)

    -- a number whose side is at most the target is at most 2^(m + 2)
    small : (op : Op) → side op y q ≤ target_of m op y p → q ≤ 4 * A
    small Reciprocal h =
        le_of_mul-le-mul_left {k = A} (omega (arith, reciprocal-target, mul-le-mul_right q least)) (pow_pos m)
    small Root h = le_of_lt (square-below q (4 * A) (omega (arith, root-target p, root-most)))
    small InverseRoot h =
        let squares : q * q ≤ 16 * (A * A) =
        le_of_mul-le-mul_left {k = A} (omega (arith, inverse-most p parity, mul-le-mul_left (q * q) least)) (pow_pos m) in
        let next : q < 4 * A + 1 = square-below q (4 * A + 1) (omega arith) in
        omega arith

    -- a number whose next has a side above the target is at least 2^(m + 1)
    large : (op : Op) → target_of m op y p < side op y (suc q) → 2 * A < suc q
    large Reciprocal h =
        lt_of_mul-lt-mul_left (2 * A) (omega (arith, reciprocal-target, mul-le-mul_right (suc q) (le_of_lt below)))
    large Root h = square-below (2 * A) (suc q) (omega (arith, root-target p, root-least))
    large InverseRoot h =
        let squares : 4 * (A * A) < suc q * suc q =
        lt_of_mul-lt-mul_left (2 * A) (omega (arith, inverse-least p parity, mul-le-mul_left (suc q * suc q) (le_of_lt below))) in
        square-below (2 * A) (suc q) (omega arith)

    -- and 2^(m + 2) leaves nothing over
    whole : (op : Op) → q ≡ 4 * A → side op y q ≤ target_of m op y p → side op y q ≡ target_of m op y p
    whole Reciprocal e h =
        let few : y ≤ A = le_of_mul-le-mul_left {k = A} (omega (arith, reciprocal-target, ap (λ (n : ℕ). y * n) e)) (pow_pos m) in
        let same : y ≡ A = omega arith in
        rw (e, same, reciprocal-target) (omega arith)
    whole Root e h = absurd (omega (arith, root-target p, root-most, ap (λ (n : ℕ). n * n) e))
    whole InverseRoot e h =
        let few : y ≤ A =
        le_of_mul-le-mul_left {k = 16 * (A * A)} (omega (arith, inverse-most p parity, ap (λ (n : ℕ). n * n * y) e)) (omega (arith, mul-pos {m = A} {n = A} (pow_pos m) (pow_pos m))) in
        let same : y ≡ A = omega arith in
        omega (arith, ap (λ (n : ℕ). n * n * y) e, ap (λ (n : ℕ). A * A * n) same, inverse-most p parity)

-- the same in powers of two
module _ (m y p q : ℕ) (parity : p ≤ 1) (least : 2 ^ m ≤ y) (below : y < 2 ^ suc m) where
  next : 2 ^ suc m ≡ 2 * 2 ^ m
  next = omega (arith, pow-suc 2 m)

  last : 2 ^ suc (suc m) ≡ 4 * 2 ^ m
  last = omega (arith, pow-suc 2 (suc m), next)

  pub quotient-small : (op : Op) → side op y q ≤ target_of m op y p → q ≤ 2 ^ suc (suc m)
  quotient-small op h = rw last (small m y p q parity least (omega (arith, next)) op h)

  pub quotient-large : (op : Op) → target_of m op y p < side op y (suc q) → 2 ^ suc m ≤ q
  quotient-large op h = omega (arith, next, large m y p q parity least (omega (arith, next)) op h)

  pub quotient-top : (op : Op) → q ≡ 2 ^ suc (suc m) → side op y q ≤ target_of m op y p → side op y q ≡ target_of m op y p
  quotient-top op e h = whole m y p q parity least (omega (arith, next)) op (omega (arith, last)) h
