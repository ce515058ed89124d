-- Where a floor with a guard bit leaves nothing over: for the reciprocal and the inverse root at a power of two alone, and never where its
-- guard bit is set, so that no exact result lies at a middle. Assumes nothing.
use mathlib.Core.Path.{◌≡◌, refl, sym, ap, ◌∙◌}
use mathlib.Core.Bool.{Bool, true, not, ◌||◌, or-true, or-false}
use mathlib.Core.List.{[], ◌∷◌}
use mathlib.Core.Logic.{by_cases}
use Prim.Native.Nat.{ℕ, zero, suc, ◌+◌, ◌*◌, ◌-◌, ◌%◌, ◌^◌, ◌≤◌, ◌<◌}
use native.Mathlib.Nat.{pow-succ', lt_of_mul-lt-mul_left}
use native.Mathlib.Decide.{ℕ_discrete}
use native.Mathlib.Omega.{arith}
use borrow.Author.Tests.{eq-eqb, ne_eqb}
use lib.Dec.{eqb}
use lib.Pow.{pow_pos}
use Rattle.kinds.specs.declared.Op.{Op}
use Rattle.kinds.specs.declared.Op.TheVariants.{Reciprocal, Root, InverseRoot}
use Rattle.numbers.proofs.Exponents.{power-of}
use Rattle.numbers.proofs.Powers.{power_below, power-same, powers-of-two, odd-both}
use Rattle.numbers.proofs.Squares.{square-below}
use Rattle.ieee.specs.Rounded.{side}
use Rattle.ieee.specs.Floor.{target_of, Floored}
use Rattle.ieee.proofs.Targets.{quotient-small, quotient-large, quotient-top}

-- a power of two that is odd is 1
odd_power : (r : ℕ) → 2 ^ r % 2 ≡ 1 → r ≡ 0
odd_power zero e = refl
odd_power (suc r) e = absurd (omega (arith, pow-succ' 2 r))

module _ (m y p q : ℕ) (parity : p ≤ 1) (least : 2 ^ m ≤ y) (below : y < 2 ^ suc m) where
  -- a significand that is a power of two is the least one
  least-power : (l : ℕ) → y ≡ 2 ^ l → l ≡ m
  least-power l e =
      let up : l < suc m = power_below l (suc m) (omega arith) in
      let down : m < suc l = power_below m (suc l) (omega (arith, pow-succ' 2 l, pow_pos l)) in
      omega arith

  -- an odd number's side is not the target
  odd-apart : (op : Op) → 2 ^ suc m ≤ q → q % 2 ≡ 1 → side op y q ≡ target_of m op y p → ⊥
  odd-apart Reciprocal large odd e =
      let w = powers-of-two (2 * m + 2) y q e in
      let none : w.right ≡ 0 = odd_power w.right (ap (λ (n : ℕ). n % 2) (sym w.right_is) ∙ odd) in
      omega (arith, w.right_is, ap (λ (n : ℕ). 2 ^ n) none, pow-succ' 2 m, pow_pos m)
  odd-apart Root large odd e =
      odd-both q q (y * 2 ^ (m + 1 + p))
      (e ∙ omega (arith, ap (λ (n : ℕ). y * n) (power-of (m + 2 + p) (1 ∷ (m + 1 + p) ∷ []) (omega arith)))) odd odd
  odd-apart InverseRoot large odd e =
      let w = powers-of-two (3 * m + 4 - p) q (q * y) (omega (arith, e)) in
      let none : w.left ≡ 0 = odd_power w.left (ap (λ (n : ℕ). n % 2) (sym w.left_is) ∙ odd) in
      omega (arith, w.left_is, ap (λ (n : ℕ). 2 ^ n) none, pow-succ' 2 m, pow_pos m)

  -- NO MIDDLE: where the guard bit is set, something lies above
  pub never-half : (op : Op) (more : Bool) → Floored op y (target_of m op y p) q more → q % 2 ≡ 1 → more ≡ true
  never-half op more f odd =
      f.rest
      ∙ ap not (ne_eqb (side op y q) (target_of m op y p) (odd-apart op (quotient-large m y p q parity least below op f.high) odd))

  module _ (op : Op) (low : side op y q ≤ target_of m op y p) (high : target_of m op y p < side op y (suc q)) where
    -- the floor is 2^(m + 2) where it is not below
    met_by : 2 ^ suc (suc m) ≤ q → side op y q ≡ target_of m op y p
    met_by h = quotient-top m y p q parity least below op (omega (arith, quotient-small m y p q parity least below op low)) low

module _ (m y q : ℕ) (least : 2 ^ m ≤ y) (below : y < 2 ^ suc m) where
  -- the reciprocal's floor leaves nothing over at the least significand alone
  pub reciprocal-rest : side Reciprocal y q ≤ target_of m Reciprocal y 0 → target_of m Reciprocal y 0 < side Reciprocal y (suc q)
      → not (eqb y (2 ^ m)) ≡ not (eqb (side Reciprocal y q) (target_of m Reciprocal y 0))
  reciprocal-rest low high =
      ap not
      (by_cases (ℕ_discrete y (2 ^ m)) (λ e. eq-eqb y (2 ^ m) e ∙ sym (eq-eqb _ _ (met e))) (λ n. ne_eqb y (2 ^ m) n ∙ sym (ne_eqb _ _ (λ e. n (power e)))))
    where
      met : y ≡ 2 ^ m → y * q ≡ 2 ^ (2 * m + 2)
      met e =
          let split : 2 ^ (2 * m + 2) ≡ 2 ^ m * 2 ^ suc (suc m) = power-of (2 * m + 2) (m ∷ suc (suc m) ∷ []) (omega arith) in
          let above : 2 ^ suc (suc m) < suc q = lt_of_mul-lt-mul_left (2 ^ m) (omega (arith, ap (λ (n : ℕ). n * suc q) e)) in
          met_by m y 0 q (omega arith) least below Reciprocal low high (omega arith)

      power : y * q ≡ 2 ^ (2 * m + 2) → y ≡ 2 ^ m
      power e =
          let w = powers-of-two (2 * m + 2) y q e in
          w.left_is ∙ ap (λ (n : ℕ). 2 ^ n) (least-power m y 0 q (omega arith) least below w.left w.left_is)

  -- and the inverse root's there with the parity 0
  pub inverse-rest : (p : ℕ) → p ≤ 1 → side InverseRoot y q ≤ target_of m InverseRoot y p → target_of m InverseRoot y p < side InverseRoot y (suc q)
      → not (eqb y (2 ^ m)) || eqb p 1 ≡ not (eqb (side InverseRoot y q) (target_of m InverseRoot y p))
  inverse-rest p parity low high = go p parity low high
    where
      power : (j : ℕ) → q * q * y ≡ 2 ^ j → (y ≡ 2 ^ m) × (r : ℕ) × (r + r + m ≡ j)
      power j e =
          let w = powers-of-two j q (q * y) (omega (arith, e)) in
          let v = powers-of-two w.right q y w.right_is in
          let l = least-power m y 0 q (omega arith) least below v.right v.right_is in
          let same = power-same w.left v.left cc in
          (v.right_is ∙ ap (λ (n : ℕ). 2 ^ n) l, w.left, omega (arith, w.sum, v.sum))

      met : y ≡ 2 ^ m → side InverseRoot y q ≤ target_of m InverseRoot y 0 → target_of m InverseRoot y 0 < side InverseRoot y (suc q) → q * q * y ≡ target_of m InverseRoot y 0
      met e l h =
          let split : target_of m InverseRoot y 0 ≡ 2 ^ m * (2 ^ suc (suc m) * 2 ^ suc (suc m)) =
          omega (arith, power-of (3 * m + 4 - 0) (m ∷ suc (suc m) ∷ suc (suc m) ∷ []) (omega arith)) in
          let above : 2 ^ suc (suc m) * 2 ^ suc (suc m) < suc q * suc q =
          lt_of_mul-lt-mul_left (2 ^ m) (omega (arith, ap (λ (n : ℕ). suc q * suc q * n) e)) in
          met_by m y 0 q (omega arith) least below InverseRoot l h (omega (arith, square-below (2 ^ suc (suc m)) (suc q) above))

      go : (p : ℕ) → p ≤ 1 → side InverseRoot y q ≤ target_of m InverseRoot y p → target_of m InverseRoot y p < side InverseRoot y (suc q)
          → not (eqb y (2 ^ m)) || eqb p 1 ≡ not (eqb (side InverseRoot y q) (target_of m InverseRoot y p))
      go zero h l u =
          or-false (not (eqb y (2 ^ m)))
          ∙ ap not
          (by_cases (ℕ_discrete y (2 ^ m)) (λ e. eq-eqb y (2 ^ m) e ∙ sym (eq-eqb _ _ (met e l u)))
          (λ n. ne_eqb y (2 ^ m) n ∙ sym (ne_eqb _ _ (λ e. n (power (3 * m + 4 - 0) e).0))))
      go (suc zero) h l u =
          or-true (not (eqb y (2 ^ m)))
          ∙ sym (ap not (ne_eqb _ _ (λ e. let r = power (3 * m + 4 - 1) e in omega (arith, r.2))))
      go (suc (suc p)) h l u = absurd (omega arith)
