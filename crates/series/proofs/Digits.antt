-- The digits of a number of three, each of up to 15 bits, and their products. Assumes nothing.
use Rattle.std.proofs.Common.{◌≡◌, ap, ◌∙◌, ℕ, ◌+◌, ◌*◌, ◌/◌, ◌%◌, ◌^◌, ◌<◌, ◌≤◌, arith, lit<}
use Rattle.std.proofs.Math.Nat.{mod-le, div-lt_iff_lt-mul, div-le_self, mul-le-mul}
use Rattle.std.proofs.Math.Pow.{shl_exact, pow_mono}
use Rattle.std.proofs.lemmas.Nat.{pow_pos, pow-add}

-- the code's shift drops no bit
pub one_shifted : (k : ℕ) → k ≤ 15 → 1 * 2 ^ k % 2 ^ 64 ≡ 2 ^ k
one_shifted k h = shl_exact 1 k 64 (lit< tt) (omega arith) ∙ omega arith

module _ (k a : ℕ) (most : k ≤ 15) (three : a < 2 ^ (3 * k)) where
  pub first_small : a / 2 ^ (2 * k) < 32768
  first_small =
      let e : 2 ^ (3 * k) ≡ 2 ^ k * 2 ^ (2 * k) = ap (λ n. 2 ^ n) (omega arith) ∙ pow-add 2 k (2 * k) in
      omega (arith, (div-lt_iff_lt-mul {x = a} {y = 2 ^ k} (pow_pos (2 * k))).1 (omega (arith, e)), pow_mono {i = k} {j = 15} most)

  front_small : a / 2 ^ k < 1073741824
  front_small =
      let e : 2 ^ (3 * k) ≡ 2 ^ (2 * k) * 2 ^ k = ap (λ n. 2 ^ n) (omega arith) ∙ pow-add 2 (2 * k) k in
      omega (arith, (div-lt_iff_lt-mul {x = a} {y = 2 ^ (2 * k)} (pow_pos k)).1 (omega (arith, e)), pow_mono {i = 2 * k} {j = 30} (omega arith))

  pub upper_small : (n : ℕ) → a / 2 ^ k + a / 2 ^ k % n < 2147483648
  upper_small n = omega (arith, front_small, mod-le (a / 2 ^ k) n)

  pub carry_small : (square : ℕ) → square ≡ a / 2 ^ (2 * k) * (a / 2 ^ (2 * k)) → square / 2 ^ k < 2147483648
  carry_small square e =
      let n : ℕ = a / 2 ^ (2 * k) in
      omega (arith, e, div-le_self square (2 ^ k), mul-le-mul {n₁ = n} {m₁ = n} {n₂ = 32768} {m₂ = 32768} (omega (arith, first_small)) (omega (arith, first_small)))
