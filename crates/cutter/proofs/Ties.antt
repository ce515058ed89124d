-- No offset lies halfway between two whole numbers, so that no tie is ever rounded. Assumes nothing.
use Prim.Native.Nat.{ℕ, zero, suc, ◌+◌, ◌*◌, ◌/◌, ◌%◌, ◌≤◌, ◌<◌}
use mathlib.Core.Path.{◌≡◌, ap}
use native.Mathlib.Nat.{mod-lt, div-add-mod, mul-pos}
use native.Mathlib.Omega.{arith}
use lib.IntN.{ℤ, nat_abs}
use Rattle.kinds.specs.Rounding.{half}
use Rattle.kinds.proofs.Places.{half-met}
use Rattle.numbers.proofs.Squares.{square-same, square-part}
use Rattle.cutter.specs.Offset.{squared_length, place_over}

-- a square is 0 or 1 more than a multiple of 4, as its root is even or odd
square-by-four : (x : ℕ) → x * x ≡ 4 * (x / 2 * (x / 2) + x / 2 * (x % 2)) + x % 2
square-by-four x = go (x / 2) (x % 2) (mod-lt x (omega arith)) (omega (arith, div-add-mod x 2))
  where
    go : (a b : ℕ) → b < 2 → x ≡ 2 * a + b → x * x ≡ 4 * (a * a + a * b) + b
    go a zero l e = omega (arith, ap (λ (y : ℕ). y * y) e)
    go a (suc zero) l e = omega (arith, ap (λ (y : ℕ). y * y) e)
    go a (suc (suc b)) l e = omega arith

-- three squares that make a square whose root w divides 2·x·radius an odd number of times: w is even, so x, y and z are, and the
-- halves are such squares again
descent : (radius t n w x y z : ℕ) → w ≤ n → 0 < w → x * x + y * y + z * z ≡ w * w → (2 * t + 1) * w ≡ 2 * (x * radius) → ⊥
descent radius t zero w x y z l p s e = omega arith
descent radius t (suc n) w x y z l p s e =
    let even : w ≡ 2 * (w / 2) = omega arith in
    let ww : w * w ≡ 4 * (w / 2 * (w / 2)) = omega (arith, ap (λ (v : ℕ). v * v) even) in
    let xx = square-by-four x in
    let yy = square-by-four y in
    let zz = square-by-four z in
    let x0 : x % 2 ≡ 0 = omega (arith, mod-lt x {m = 2} (omega arith), mod-lt y {m = 2} (omega arith), mod-lt z {m = 2} (omega arith)) in
    let y0 : y % 2 ≡ 0 = omega (arith, mod-lt y {m = 2} (omega arith), mod-lt z {m = 2} (omega arith)) in
    let z0 : z % 2 ≡ 0 = omega (arith, mod-lt z {m = 2} (omega arith)) in
    let x2 : x ≡ 2 * (x / 2) = omega (arith, div-add-mod x 2) in
    descent radius t n (w / 2) (x / 2) (y / 2) (z / 2) (omega arith) (omega arith)
    (omega (arith, ap (λ (v : ℕ). x / 2 * v) x0, ap (λ (v : ℕ). y / 2 * v) y0, ap (λ (v : ℕ). z / 2 * v) z0))
    (omega (arith, ap (λ (v : ℕ). v * radius) x2, ap (λ (v : ℕ). (2 * t + 1) * v) even))

root-positive : (w q : ℕ) → w * w ≡ q → 0 < q → 0 < w
root-positive zero q e p = omega arith
root-positive (suc w) q e p = omega arith

-- twice the exact value is no odd number
module _ (x y z radius q t : ℕ) (pos : 0 < q) (is : q ≡ x * x + y * y + z * z) where
  never-odd : (t + suc t) * (t + suc t) * q ≡ 4 * (x * radius * (x * radius)) → ⊥
  never-odd e =
      let root = square-part (2 * t + 1) (2 * (x * radius)) q (omega arith) (omega arith) in
      let w : ℕ = root.root in
      let same : (2 * t + 1) * w ≡ 2 * (x * radius) =
      square-same ((2 * t + 1) * w) (2 * (x * radius)) (omega (arith, ap (λ (v : ℕ). (2 * t + 1) * (2 * t + 1) * v) root.is)) in
      descent radius t w w x y z (omega arith) (root-positive w q root.is pos) (omega (arith, root.is)) same

  never-half : place_over (x * radius) q t ≡ half → ⊥
  unfolding place_over
  never-half e = never-odd (half-met _ _ _ _ e)

-- the three offsets of a point, whatever the whole number below
pub record NoTie (dx dy : ℤ) (step radius t : ℕ) : Type 0 where
  pub along-x : place_over (nat_abs dx * radius) (squared_length dx dy step) t ≡ half → ⊥
  pub along-y : place_over (nat_abs dy * radius) (squared_length dx dy step) t ≡ half → ⊥
  pub along-z : place_over (2 * step * radius) (squared_length dx dy step) t ≡ half → ⊥

pub no_tie : (dx dy : ℤ) (step radius t : ℕ) → 0 < step → NoTie dx dy step radius t
no_tie dx dy step radius t pos =
    let a : ℕ = nat_abs dx in
    let b : ℕ = nat_abs dy in
    let q : ℕ = squared_length dx dy step in
    let q-pos : 0 < q = omega (arith, mul-pos pos pos) in
    record {
      along-x = never-half a b (2 * step) radius q t q-pos (omega arith);
      along-y = never-half b a (2 * step) radius q t q-pos (omega arith);
      along-z = never-half (2 * step) a b radius q t q-pos (omega arith);
    }
