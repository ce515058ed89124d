-- The floor of a significand is the floor of the exact result with a guard bit, at the scale of the operation, over the format.
-- Assumes nothing.
use mathlib.Core.Path.{◌≡◌, refl, sym, ap, ◌∙◌}
use mathlib.Core.Bool.{Bool, not}
use mathlib.Core.Logic.{by_cases}
use mathlib.Core.List.{[], ◌∷◌}
use Prim.Native.Nat.{ℕ, suc, ◌+◌, ◌*◌, ◌-◌, ◌/◌, ◌%◌, ◌^◌, ◌≤◌, ◌<◌}
use native.Mathlib.Nat.{le_of_mul-le-mul_left, lt_of_mul-lt-mul_left, eq_of_mul-eq-mul_left, mul-le-mul_left, mul-lt-mul_of_pos_left}
use native.Mathlib.Decide.{dec_lt, ℕ_discrete}
use native.Mathlib.Omega.{arith}
use borrow.Author.Tests.{eq-eqb, ne_eqb}
use lib.Dec.{eqb}
use lib.Pow.{pow_pos}
use Rattle.kinds.specs.declared.Op.{Op}
use Rattle.kinds.specs.declared.Op.TheVariants.{Reciprocal, Root, InverseRoot}
use Rattle.numbers.proofs.Exponents.{power-of}
use Rattle.ieee.specs.Format.{Format, unit_of}
use Rattle.ieee.specs.Rounded.{side, limit, twice}
use Rattle.ieee.specs.Guarded.{Guarded}
use Rattle.ieee.specs.Floor.{target_of, Floored, scale_of, parity_of}
use Rattle.ieee.proofs.Targets.{quotient-small, quotient-large, quotient-top}

parity-most : (f : Format) (op : Op) (j : ℕ) → parity_of f op j ≤ 1
parity-most f Reciprocal j = omega arith
parity-most f Root j = omega arith
parity-most f InverseRoot j = omega arith

-- two orders that differ by positive factors
module _ (a b m n m' n' : ℕ) (pos-a : 0 < a) (pos-b : 0 < b) (em : a * m ≡ b * m') (en : a * n ≡ b * n') where
  carried≤ : m' ≤ n' → m ≤ n
  carried≤ h = le_of_mul-le-mul_left {k = a} (omega (arith, mul-le-mul_left b h)) pos-a

  carried< : m' < n' → m < n
  carried< h = lt_of_mul-lt-mul_left a (omega (arith, mul-lt-mul_of_pos_left h pos-b))

  carried-eqb : eqb m' n' ≡ eqb m n
  carried-eqb =
      by_cases (ℕ_discrete m n)
      (λ e. rw (eq-eqb m n e) (eq-eqb m' n' (eq_of_mul-eq-mul_left b pos-b m' n' (sym em ∙ ap (λ (k : ℕ). a * k) e ∙ en))))
      (λ d. rw (ne_eqb m n d) (ne_eqb m' n' (λ e. d (eq_of_mul-eq-mul_left a pos-a m n (em ∙ ap (λ (k : ℕ). b * k) e ∙ sym en)))))

-- The magnitude x stands to the significand y by factors a and b: sides and limits go over from one to the other
module _ (f : Format) (op : Op) (x y p k : ℕ) (a b : ℕ) (pos-a : 0 < a) (pos-b : 0 < b) (least : 2 ^ f.fraction_bits ≤ y)
    (below : y < 2 ^ suc f.fraction_bits) (parity : p ≤ 1)
    (sides : (q : ℕ) → a * side op x (q * 2 ^ (k - 2)) ≡ b * side op y q)
    (limits : a * (twice op ^ suc (2 - k) * limit (unit_of f) op x) ≡ b * target_of f.fraction_bits op y p) where
  carried : (q : ℕ) (more : Bool) → Floored op y (target_of f.fraction_bits op y p) q more → Guarded f op x q more k
  carried q more floor =
      record {
        low = carried≤ a b _ _ _ _ pos-a pos-b (sides q) limits floor.low;
        high = carried< a b _ _ _ _ pos-a pos-b limits (sides (suc q)) floor.high;
        rest = floor.rest ∙ ap not (carried-eqb a b _ _ _ _ pos-a pos-b (sides q) limits);
        least = quotient-large f.fraction_bits y p q parity least below op floor.high;
        most = quotient-small f.fraction_bits y p q parity least below op floor.low;
        top = λ e.
            floor.rest
            ∙ ap not (eq-eqb (side op y q) (target_of f.fraction_bits op y p) (quotient-top f.fraction_bits y p q parity least below op e floor.low));
      }

-- The factors at each operation's scale, over m and u: x × 2^m is y × 2^j
module _ (m u x y j : ℕ) (wide : 4 * m + 4 ≤ u) (is : x * 2 ^ m ≡ y * 2 ^ j) (small : j ≤ 2 * u + 1 - m) where
  -- the reciprocal's: its two lowest scales are those of subnormal results
  module _ (k : ℕ) (ek : k ≡ 2 * u + 1 - m - j) where
    factor : ℕ
    factor = 2 * u - m - 1 + (2 - k)

    exponents : k - 2 + j ≡ 2 * u - m - 1 + (2 - k)
    exponents = by_cases (dec_lt k 2) (λ l. omega arith) (λ l. omega arith)

    reciprocal-sides : (q : ℕ) → 2 ^ m * (x * (q * 2 ^ (k - 2))) ≡ 2 ^ factor * (y * q)
    unfolding factor
    reciprocal-sides q =
        let c : 2 ^ factor ≡ 2 ^ (k - 2) * 2 ^ j = power-of factor ((k - 2) ∷ j ∷ []) (sym exponents) in
        rw c (omega (arith, ap (λ (n : ℕ). n * (q * 2 ^ (k - 2))) is))

    reciprocal-limits : 2 ^ m * (2 ^ suc (2 - k) * 2 ^ (2 * u)) ≡ 2 ^ factor * 2 ^ (2 * m + 2)
    unfolding factor
    reciprocal-limits =
        sym (power-of (m + (suc (2 - k) + 2 * u)) (m ∷ suc (2 - k) ∷ 2 * u ∷ []) refl)
        ∙ power-of (m + (suc (2 - k) + 2 * u)) (factor ∷ (2 * m + 2) ∷ []) (sum (2 - k))
      where
        sum : (l : ℕ) → m + (suc l + 2 * u) ≡ 2 * u - m - 1 + l + (2 * m + 2)
        sum l = omega arith

  -- the root's
  module _ (k p : ℕ) (ek : 2 * k + p ≡ j + (u + 4 - 2 * m)) (parity : p ≤ 1) where
    root-normal : 2 - k ≡ 0
    root-normal = omega arith

    root-sides : (q : ℕ) → 2 ^ (m + p) * (q * 2 ^ (k - 2) * (q * 2 ^ (k - 2))) ≡ 2 ^ (j + u - m) * (q * q)
    root-sides q =
        let sum : j + u - m ≡ m + p + (k - 2 + (k - 2)) = omega arith in
        omega (arith, ap (λ (n : ℕ). n * (q * q)) (power-of (j + u - m) ((m + p) ∷ (k - 2) ∷ (k - 2) ∷ []) sum))

    root-limits : 2 ^ (m + p) * (4 ^ suc (2 - k) * (x * 2 ^ u)) ≡ 2 ^ (j + u - m) * (y * 2 ^ (m + 2 + p))
    root-limits =
        let e : ℕ = p + (2 + u) in
        let sum : j + e ≡ j + u - m + (m + 2 + p) = omega arith in
        rw root-normal
        (omega (
          arith,
          ap (λ (n : ℕ). x * n) (power-of (m + e) ((m + p) ∷ 2 ∷ u ∷ []) (omega arith)),
          ap (λ (n : ℕ). x * n) (power-of (m + e) (m ∷ e ∷ []) refl),
          ap (λ (n : ℕ). n * 2 ^ e) is,
          ap (λ (n : ℕ). y * n) (power-of (j + e) (j ∷ e ∷ []) refl),
          ap (λ (n : ℕ). y * n) (power-of (j + e) ((j + u - m) ∷ (m + 2 + p) ∷ []) sum),
        ))

  -- the inverse root's
  module _ (k p : ℕ) (ek : 2 * k + j ≡ 3 * u + 2 - 2 * m + p) (parity : p ≤ 1) where
    inverse-normal : 2 - k ≡ 0
    inverse-normal = omega arith

    inverse-sides : (q : ℕ) → 2 ^ m * (q * 2 ^ (k - 2) * (q * 2 ^ (k - 2)) * x) ≡ 2 ^ (3 * u - 2 * m - 2 + p) * (q * q * y)
    inverse-sides q =
        let e : ℕ = 3 * u - 2 * m - 2 + p in
        let sum : e ≡ k - 2 + (k - 2 + j) = omega arith in
        omega (
          arith,
          ap (λ (n : ℕ). n * (q * 2 ^ (k - 2) * (q * 2 ^ (k - 2)))) is,
          ap (λ (n : ℕ). n * (q * q * y)) (power-of e ((k - 2) ∷ (k - 2) ∷ j ∷ []) sum),
        )

    inverse-limits : 2 ^ m * (4 ^ suc (2 - k) * 2 ^ (3 * u)) ≡ 2 ^ (3 * u - 2 * m - 2 + p) * 2 ^ (3 * m + 4 - p)
    inverse-limits =
        let sum : m + (2 + 3 * u) ≡ 3 * u - 2 * m - 2 + p + (3 * m + 4 - p) = omega arith in
        rw inverse-normal
        (omega (
          arith,
          power-of (m + (2 + 3 * u)) (m ∷ 2 ∷ 3 * u ∷ []) refl,
          power-of (m + (2 + 3 * u)) ((3 * u - 2 * m - 2 + p) ∷ (3 * m + 4 - p) ∷ []) sum,
        ))

-- a number by its half and its parity
root-scale : (n : ℕ) → 2 * (n / 2) + n % 2 ≡ n
root-scale n = omega arith

inverse-scale : (m u j : ℕ) → 4 * m + 4 ≤ u → j ≤ 2 * u + 1 - m
    → 2 * ((3 * u + 2 - 2 * m - j + 1) / 2) + j ≡ 3 * u + 2 - 2 * m + (3 * u + 2 - 2 * m - j) % 2
inverse-scale m u j wide small =
    let n : ℕ = 3 * u + 2 - 2 * m - j in
    let back : n + j ≡ 3 * u + 2 - 2 * m = omega arith in
    let half : 2 * ((n + 1) / 2) ≡ n + n % 2 = halved n in
    omega (arith, back, half)
  where
    halved : (n : ℕ) → 2 * ((n + 1) / 2) ≡ n + n % 2
    halved n = omega arith

-- THE SCALES of a format whose unit is small enough
module _ (f : Format) (x y j : ℕ) (wide : 4 * f.fraction_bits + 4 ≤ unit_of f) (is : x * 2 ^ f.fraction_bits ≡ y * 2 ^ j)
    (least : 2 ^ f.fraction_bits ≤ y) (below : y < 2 ^ suc f.fraction_bits) (small : j ≤ 2 * unit_of f + 1 - f.fraction_bits) where
  pub guarded : (op : Op) (q : ℕ) (more : Bool) → Floored op y (target_of f.fraction_bits op y (parity_of f op j)) q more
      → Guarded f op x q more (scale_of f op j)
  guarded Reciprocal =
      let m : ℕ = f.fraction_bits in
      let k : ℕ = scale_of f Reciprocal j in
      carried f Reciprocal x y 0 k (2 ^ m) _ (pow_pos m) (pow_pos (factor m (unit_of f) x y j wide is small k refl)) least below (parity-most f Reciprocal j)
      (reciprocal-sides m (unit_of f) x y j wide is small k refl) (reciprocal-limits m (unit_of f) x y j wide is small k refl)
  guarded Root =
      let m : ℕ = f.fraction_bits in
      let k : ℕ = scale_of f Root j in
      let p : ℕ = parity_of f Root j in
      let e = root-scale (j + (unit_of f + 4 - 2 * m)) in
      carried f Root x y p k (2 ^ (m + p)) (2 ^ (j + unit_of f - m)) (pow_pos (m + p)) (pow_pos (j + unit_of f - m)) least below (parity-most f Root j)
      (root-sides m (unit_of f) x y j wide is small k p e (parity-most f Root j)) (root-limits m (unit_of f) x y j wide is small k p e (parity-most f Root j))
  guarded InverseRoot =
      let m : ℕ = f.fraction_bits in
      let k : ℕ = scale_of f InverseRoot j in
      let p : ℕ = parity_of f InverseRoot j in
      let e = inverse-scale m (unit_of f) j wide small in
      let b : ℕ = 3 * unit_of f - 2 * m - 2 + p in
      carried f InverseRoot x y p k (2 ^ m) (2 ^ b) (pow_pos m) (pow_pos b) least below (parity-most f InverseRoot j)
      (inverse-sides m (unit_of f) x y j wide is small k p e (parity-most f InverseRoot j))
      (inverse-limits m (unit_of f) x y j wide is small k p e (parity-most f InverseRoot j))
