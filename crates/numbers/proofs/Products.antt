-- Orders of products, and of products of squares. Assumes nothing.
use mathlib.Core.Path.{◌≡◌}
use mathlib.Core.List.{[], ◌∷◌}
use Prim.Native.Nat.{ℕ, ◌*◌, ◌≤◌, ◌<◌}
use native.Mathlib.Nat.{mul-le-mul, mul-le-mul_left, mul-lt-mul_of_pos_left, lt_of_mul-lt-mul_left}
use native.Mathlib.Omega.{arith}
use Rattle.numbers.proofs.Ring.{v, ◌⊗◌, poly}

-- l < r where c times either is d times one of m < n
pub cancel-lt : (c d : ℕ) {l r m n : ℕ} → 0 < d → c * l ≡ d * m → c * r ≡ d * n → m < n → l < r
cancel-lt c d p e f h = lt_of_mul-lt-mul_left c (omega (arith, mul-lt-mul_of_pos_left h p))

module _ (a c x y : ℕ) where
  regrouped : a * c * (x * y * (x * y)) ≡ a * (x * x) * (c * (y * y))
  regrouped =
      poly (a ∷ c ∷ x ∷ y ∷ []) (v 0 ⊗ v 1 ⊗ (v 2 ⊗ v 3 ⊗ (v 2 ⊗ v 3))) (v 0 ⊗ (v 2 ⊗ v 2) ⊗ (v 1 ⊗ (v 3 ⊗ v 3))) tt tt

  -- a x² ≤ b and c y² < d make a c e² < b d, for e at most x y
  pub squares-below : {b d e : ℕ} → a * (x * x) ≤ b → c * (y * y) < d → e ≤ x * y → 0 < b → a * c * (e * e) < b * d
  squares-below {b} {d} {e} h l f p =
      let i : a * c * (e * e) ≤ a * c * (x * y * (x * y)) = mul-le-mul_left (a * c) (mul-le-mul f f) in
      let j : a * (x * x) * (c * (y * y)) ≤ b * (c * (y * y)) = mul-le-mul h (omega arith) in
      omega (arith, i, regrouped, j, mul-lt-mul_of_pos_left l p)

  -- b ≤ a x² and d < c y² make b d < a c e², for e at least x y
  pub squares-above : {b d e : ℕ} → b ≤ a * (x * x) → d < c * (y * y) → x * y ≤ e → 0 < b → b * d < a * c * (e * e)
  squares-above {b} {d} {e} h l f p =
      let i : a * c * (x * y * (x * y)) ≤ a * c * (e * e) = mul-le-mul_left (a * c) (mul-le-mul f f) in
      let j : b * (c * (y * y)) ≤ a * (x * x) * (c * (y * y)) = mul-le-mul h (omega arith) in
      omega (arith, i, regrouped, j, mul-lt-mul_of_pos_left l p)
