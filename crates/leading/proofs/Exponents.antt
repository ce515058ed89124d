-- The exponent of a number's leading bits: its bounds, its half and its parity. Assumes nothing.
use mathlib.Core.Path.{◌≡◌, ap, ◌∙◌}
use Prim.Native.Nat.{ℕ, ◌+◌, ◌*◌, ◌/◌, ◌%◌, ◌^◌, ◌≤◌, ◌<◌}
use native.Mathlib.Nat.{mod-lt, div-add-mod, pow-le-pow_right}
use native.Mathlib.Omega.{arith}
use lib.Pow.{pow_pos, pow-add}
use Rattle.numbers.proofs.Powers.{power_below}
use Rattle.leading.specs.Leading.{LeadingOf}

-- an even power and the parity
pub halves : (j : ℕ) → 2 ^ j ≡ 2 ^ (j / 2) * 2 ^ (j / 2) * 2 ^ (j % 2)
halves j =
    let h : ℕ = j / 2 in
    let e : j ≡ h + h + j % 2 = omega (arith, div-add-mod j 2) in
    ap (λ (m : ℕ). 2 ^ m) e ∙ pow-add 2 (h + h) (j % 2) ∙ ap (λ (x : ℕ). x * 2 ^ (j % 2)) (pow-add 2 h h)

pub parity-most : (j : ℕ) → j % 2 ≤ 1
parity-most j = omega (arith, mod-lt j {m = 2} (omega arith))

-- the power of a parity is 1 or 2
pub parity-power : (j : ℕ) → (1 ≤ 2 ^ (j % 2)) × (2 ^ (j % 2) ≤ 2)
parity-power j = (pow_pos (j % 2), pow-le-pow_right {n = 2} (omega arith) (parity-most j))

module _ (n y exponent : ℕ) (leading : LeadingOf n y exponent) where
  -- where n is below a power, so is its exponent
  pub exponent-below : (k : ℕ) → n < 2 ^ k → exponent < k
  exponent-below k h = power_below exponent k (omega (arith, leading.highest))

  -- and where it is at least a power
  pub exponent-above : (k : ℕ) → 2 ^ k ≤ n → k ≤ exponent
  exponent-above k h = let l : k < exponent + 1 = power_below k (exponent + 1) (omega (arith, leading.next)) in omega arith

  -- n · 2^23 lies from y to y + 1, times an even power and the parity's
  pub halves-low : y * (2 ^ (exponent / 2) * 2 ^ (exponent / 2) * 2 ^ (exponent % 2)) ≤ n * 2 ^ 23
  halves-low = rw (← halves exponent) leading.low

  pub halves-high : n * 2 ^ 23 ≤ (y + 1) * (2 ^ (exponent / 2) * 2 ^ (exponent / 2) * 2 ^ (exponent % 2))
  halves-high = rw (← halves exponent) leading.high
