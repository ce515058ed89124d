-- How large the products of the raw code are, so that each fits 64 bits. Assumes nothing.
use mathlib.Core.Path.{◌≡◌, ap}
use Prim.Native.Nat.{ℕ, ◌+◌, ◌*◌, ◌-◌, ◌/◌, ◌^◌, ◌≤◌, ◌<◌}
use native.Mathlib.Nat.{mul-le-mul, le_of_lt}
use native.Mathlib.Omega.{arith}
use Rattle.significand.specs.Width.{k32, t32, Significand}
use Rattle.significand.specs.Steps.{factor_of}
use Rattle.significand.proofs.Sizes.{factor-small}

-- two numbers, each below a limit
pub limits-product : (m n a b : ℕ) → a < m → b < n → a * b < m * n
limits-product m n a b ha hb =
    let most : b ≤ n - 1 = omega arith in
    let back : n - 1 + 1 ≡ n = omega arith in
    omega (arith, mul-le-mul (le_of_lt ha) most, ap (λ (x : ℕ). m * x) back)

-- y × R has 33 bits
pub reduced-product : (y r : ℕ) → Significand k32 t32 y → r ≡ factor_of k32 (y / 65536) → y * r < 2 ^ 33
reduced-product y r Y e =
    omega (arith, mul-le-mul {n₁ = y} {m₁ = r} {n₂ = 2 ^ 24} {m₂ = 256} (omega (arith, Y.below)) (factor-small y Y r e))
