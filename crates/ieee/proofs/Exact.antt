-- An exact result is a number of the format precisely where the operand's value has the form that its operation asks. Assumes nothing.
use mathlib.Core.Path.{◌≡◌, refl, sym, ap, ap₂, ◌∙◌}
use mathlib.Core.Logic.{by_cases}
use Prim.Native.Nat.{ℕ, zero, suc, ◌+◌, ◌*◌, ◌-◌, ◌/◌, ◌^◌, ◌≤◌, ◌<◌}
use native.Mathlib.Nat.{pow-succ', mul-le-mul_left, mul-le-mul_right, mul-lt-mul_of_pos_right}
use native.Mathlib.Decide.{dec_lt}
use native.Mathlib.Omega.{arith}
use lib.IntN.{ℤ, pos, negsuc, nat_abs}
use lib.Pow.{pow_pos, pow-add, pow_mono}
use Rattle.kinds.specs.declared.Op.{Op}
use Rattle.kinds.specs.declared.Op.TheVariants.{Reciprocal, Root, InverseRoot}
use Rattle.numbers.proofs.Powers.{powers-of-two, power_below, power-same, power-sum, power-of-four}
use Rattle.numbers.proofs.Squares.{PerfectSquare, square-part, square-below, square-of-four}
use Rattle.ieee.specs.Format.{Format, bias_of, unit_of, infinity, magnitude_of}
use Rattle.ieee.specs.Rounded.{side, limit, lower_of}
use Rattle.ieee.specs.Agree.{TimesPower, PowerOfTwo, SquareTimesPowerOfFour, PowerOfFour, Agree}
use Rattle.ieee.proofs.Neighbours.{rising, magnitude-pos, side-rising<, Lower, lower-is, lower-found}
use Rattle.ieee.proofs.Representable.{Regular, Sizes, sizes, Short, magnitude-short, Number, number_short, power-number}

-- the exact result is a number of the format
record Exact (f : Format) (u : ℕ) (op : Op) (x : ℕ) : Type 0 where
  result : ℕ
  finite : result < infinity f
  is : side op x (magnitude_of f result) ≡ limit u op x

-- the same of a magnitude
exact-at : (f : Format) (u : ℕ) (op : Op) (x v : ℕ) → Number f v → side op x v ≡ limit u op x → Exact f u op x
exact-at f u op x v n e = record { result = n.pattern; finite = n.finite; is = rw n.is e }

-- a root is short where its square has at most one bit more
short-by-square : (m v : ℕ) → v * v < 2 * 2 ^ suc m → v < 2 ^ suc m
short-by-square m v h =
    square-below v (2 ^ suc m) (omega (arith, mul-le-mul_right (2 ^ suc m) (pow_mono {i = 1} {j = suc m} (omega arith))))

-- and where its square is short times a power of two, two of which go to the root's one
root-short : (w m s v : ℕ) → s < 2 ^ suc m → v * v ≡ s * 2 ^ w → Short m v
root-short zero m s v h e = record { significand = v; scale = 0; short = short-by-square m v (omega arith); is = omega arith }
root-short (suc zero) m s v h e = record { significand = v; scale = 0; short = short-by-square m v (omega arith); is = omega arith }
root-short (suc (suc w)) m s v h e =
    let four : v * v ≡ 4 * (s * 2 ^ w) = e ∙ rw (pow-succ' 2 (suc w), pow-succ' 2 w) (omega arith) in
    let halves = square-of-four v (s * 2 ^ w) four in
    let r = root-short w m s (v / 2) h halves.1 in
    record {
      significand = r.significand;
      scale = suc r.scale;
      short = r.short;
      is = rw (pow-succ' 2 r.scale) (omega (arith, halves, r.is));
    }

-- the value of the power of two 2^j has the exponent j − u
power-value : (u b x j : ℕ) → x ≡ 2 ^ j → j ≤ u + b → u ≤ j + b → PowerOfTwo u b x
power-value u b x j e high low =
    by_cases (dec_lt j u)
    (λ l. record { exponent = negsuc (u - suc j); within = omega arith; is = rw e (power-sum j (suc (u - suc j)) u (omega arith)) })
    (λ l. record { exponent = pos (j - u); within = omega arith; is = e ∙ sym (power-sum u (j - u) j (omega arith)) })

-- where x × 2^u is a square, the value of x is a square times 4^-u,
square-value : (u x v : ℕ) → v * v ≡ x * 2 ^ u → SquareTimesPowerOfFour u x
square-value zero x v e = record { base = v; exponent = pos 0; is = omega arith }
square-value (suc u) x v e =
    record { base = v; exponent = negsuc u; is = rw (power-of-four (suc u)) (omega (arith, ap (λ (y : ℕ). y * 2 ^ suc u) e)) }

-- and the other way round
value-square : (u x base : ℕ) (e : ℤ) → TimesPower 4 e x (base * base * 2 ^ u) → PerfectSquare (x * 2 ^ u)
value-square u x base (pos n) e =
    record {
      root = base * 2 ^ u * 2 ^ n;
      is = omega (arith, ap (λ (y : ℕ). y * 2 ^ u) e, ap (λ (y : ℕ). base * base * 2 ^ u * 2 ^ u * y) (power-of-four n));
    }
value-square u x base (negsuc n) e =
    square-part (2 ^ suc n) (base * 2 ^ u) (x * 2 ^ u) (pow_pos (suc n))
    (omega (arith, ap (λ (y : ℕ). y * 2 ^ u) e, ap (λ (y : ℕ). x * 2 ^ u * y) (power-of-four (suc n))))

-- a power of two times one of four
power-times-four : (j k n : ℕ) → j + (k + k) ≡ n → 2 ^ j * 4 ^ k ≡ 2 ^ n
power-times-four j k n h =
    ap (λ (y : ℕ). 2 ^ j * y) (power-of-four k ∙ power-sum k k (k + k) refl) ∙ power-sum j (k + k) n h

-- the value of the power of two 2^j is a power of four where j − u is even
four-value : (u x i j : ℕ) → x ≡ 2 ^ j → i + i + j ≡ 3 * u → PowerOfFour u x
four-value u x i j e h =
    by_cases (dec_lt u i)
    (λ l. record { exponent = negsuc (i - suc u); is = rw e (power-times-four j (suc (i - suc u)) u (omega arith)) })
    (λ l. record { exponent = pos (u - i); is = e ∙ sym (power-times-four u (u - i) j (omega arith)) })

-- the magnitude x of a finite operand that is not zero
record Operand (f : Format) (u b x : ℕ) : Type 0 where
  sizes : Sizes f u b
  positive : 0 < x
  below : x < 2 ^ (u + suc b)
  short : Short f.fraction_bits x

module _ {f : Format} {u b x : ℕ} (o : Operand f u b x) where
  -- the reciprocal: two factors of a power of two are powers of two
  reciprocal-agrees : Exact f u Reciprocal x → PowerOfTwo u b x
  reciprocal-agrees a =
      let p = powers-of-two (2 * u) x (magnitude_of f a.result) a.is in
      let left = power_below p.left (u + suc b) (rw p.left_is at o.below) in
      let right = power_below p.right (u + suc b) (rw (o.sizes.top, p.right_is) at (rising f a.finite)) in
      power-value u b x p.left p.left_is (omega arith) (omega (arith, p.sum))

  reciprocal-exact : PowerOfTwo u b x → Exact f u Reciprocal x
  reciprocal-exact a = go a.exponent a.within a.is
    where
      go : (e : ℤ) → nat_abs e ≤ b → TimesPower 2 e x (2 ^ u) → Exact f u Reciprocal x
      go (pos n) w e =
          exact-at f u Reciprocal x (2 ^ (u - n)) (power-number o.sizes (u - n) (omega arith))
          (omega (arith, ap (λ (y : ℕ). y * 2 ^ (u - n)) e, ap (λ (y : ℕ). 2 ^ u * y) (power-sum n (u - n) u (omega (arith, o.sizes))), power-sum u u (2 * u) (omega arith)))
      go (negsuc n) w e =
          exact-at f u Reciprocal x (2 ^ (u + suc n)) (power-number o.sizes (u + suc n) (omega arith))
          (omega (arith, ap (λ (y : ℕ). x * y) (pow-add 2 u (suc n)), ap (λ (y : ℕ). y * 2 ^ u) e, power-sum u u (2 * u) (omega arith)))

  -- the root: x × 2^u is a square, whose root is short as x is
  root-agrees : Exact f u Root x → SquareTimesPowerOfFour u x
  root-agrees a = square-value u x (magnitude_of f a.result) a.is

  root-exact : SquareTimesPowerOfFour u x → Exact f u Root x
  root-exact a =
      let h = o.short in
      let q = value-square u x a.base a.exponent a.is in
      let v = q.root in
      let shifted : x * 2 ^ u ≡ h.significand * 2 ^ (h.scale + u) =
      rw (pow-add 2 h.scale u) (omega (arith, ap (λ (y : ℕ). y * 2 ^ u) h.is)) in
      let r = root-short (h.scale + u) f.fraction_bits h.significand v h.short (q.is ∙ shifted) in
      let small : v < magnitude_of f (infinity f) =
      rw o.sizes.top
      (square-below v (2 ^ (u + suc b))
      (omega (arith, q.is, mul-lt-mul_of_pos_right o.below (pow_pos u), mul-le-mul_left (2 ^ (u + suc b)) (pow_mono {i = u} {j = u + suc b} (omega arith))))) in
      exact-at f u Root x v (number_short f v r small) q.is

  -- the inverse root: three factors of a power of two, two of them equal
  inverse-root-agrees : Exact f u InverseRoot x → PowerOfFour u x
  inverse-root-agrees a =
      let v = magnitude_of f a.result in
      let p = powers-of-two (3 * u) v (v * x) (omega (arith, a.is)) in
      let q = powers-of-two p.right v x p.right_is in
      let same = power-same p.left q.left (cc) in
      four-value u x p.left q.right q.right_is (omega (arith, p.sum, q.sum))

  inverse-root-exact : PowerOfFour u x → Exact f u InverseRoot x
  inverse-root-exact a = go a.exponent a.is
    where
      go : (e : ℤ) → TimesPower 4 e x (2 ^ u) → Exact f u InverseRoot x
      go (pos n) e =
          let x-is : x ≡ 2 ^ (u + (n + n)) = e ∙ power-times-four u n (u + (n + n)) refl in
          let within = power_below (u + (n + n)) (u + suc b) (rw x-is at o.below) in
          exact-at f u InverseRoot x (2 ^ (u - n)) (power-number o.sizes (u - n) (omega arith))
          (ap₂ (λ (y z : ℕ). y * z) (power-sum (u - n) (u - n) (u - n + (u - n)) refl) x-is
          ∙ power-sum (u - n + (u - n)) (u + (n + n)) (3 * u) (omega (arith, o.sizes)))
      go (negsuc n) e =
          let k = suc n in
          let within = power_below (k + k) (suc u)
          (omega (arith, power-of-four k, power-sum k k (k + k) refl, pow-succ' 2 u, pow_pos u, mul-le-mul_right (4 ^ k) o.positive, e)) in
          let square : 2 ^ (u + k) * 2 ^ (u + k) ≡ 2 ^ (u + u) * 4 ^ k =
          power-sum (u + k) (u + k) (u + u + (k + k)) (omega arith) ∙ sym (power-times-four (u + u) k (u + u + (k + k)) refl) in
          exact-at f u InverseRoot x (2 ^ (u + k)) (power-number o.sizes (u + k) (omega (arith, o.sizes)))
          (omega (arith, ap (λ (y : ℕ). y * x) square, ap (λ (y : ℕ). 2 ^ (u + u) * y) e, power-sum (u + u) u (3 * u) (omega arith)))

-- where the exact result is a number, the lower neighbour is that number
lower-exact : (f : Format) (op : Op) (x : ℕ) → 0 < x → Exact f (unit_of f) op x → side op x (magnitude_of f (lower_of f op x)) ≡ limit (unit_of f) op x
lower-exact f op x p a =
    let l : Lower f op x a.result =
    record {
      finite = a.finite;
      reached = omega (arith, a.is);
      passed = λ k. omega (arith, a.is, side-rising< op x p (rising f {s = a.result} {t = suc a.result} (omega arith)));
    } in
    ap (λ (t : ℕ). side op x (magnitude_of f t)) (lower-is f op x a.result l) ∙ a.is

-- t is a finite pattern that is not zero
module _ (f : Format) (r : Regular f) (t : ℕ) (positive : 0 < t) (finite : t < infinity f) where
  operand : Operand f (unit_of f) (bias_of f) (magnitude_of f t)
  operand =
      record {
        sizes = sizes f r;
        positive = magnitude-pos f positive;
        below = rw (sizes f r).top at (rising f finite);
        short = magnitude-short f t;
      }

  -- all three operations in one
  exact-agrees : (op : Op) → Exact f (unit_of f) op (magnitude_of f t) → Agree f op (magnitude_of f t)
  exact-agrees Reciprocal a = reciprocal-agrees operand a
  exact-agrees Root a = root-agrees operand a
  exact-agrees InverseRoot a = inverse-root-agrees operand a

  agree-exact : (op : Op) → Agree f op (magnitude_of f t) → Exact f (unit_of f) op (magnitude_of f t)
  agree-exact Reciprocal a = reciprocal-exact operand a
  agree-exact Root a = root-exact operand a
  agree-exact InverseRoot a = inverse-root-exact operand a

  -- the side reaches the limit at the lower neighbour exactly where the operand's value agrees
  pub reached-agrees : (op : Op)
      → side op (magnitude_of f t) (magnitude_of f (lower_of f op (magnitude_of f t))) ≡ limit (unit_of f) op (magnitude_of f t)
      → Agree f op (magnitude_of f t)
  reached-agrees op e = exact-agrees op (record { result = lower_of f op (magnitude_of f t); finite = (lower-found f op (magnitude_of f t) r.exponent).finite; is = e })

  pub agree-reached : (op : Op) → Agree f op (magnitude_of f t)
      → side op (magnitude_of f t) (magnitude_of f (lower_of f op (magnitude_of f t))) ≡ limit (unit_of f) op (magnitude_of f t)
  agree-reached op a = lower-exact f op (magnitude_of f t) (magnitude-pos f positive) (agree-exact op a)
