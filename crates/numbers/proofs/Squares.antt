-- Squares of whole numbers: their order, and that a square part can be taken out of a square. Assumes nothing.
use mathlib.Core.Path.{◌≡◌, sym, ap}
use mathlib.Core.Logic.{by_cases}
use Prim.Native.Nat.{ℕ, zero, suc, ◌+◌, ◌*◌, ◌-◌, ◌/◌, ◌%◌, ◌≤◌, ◌<◌}
use native.Mathlib.Nat.{mul-le-mul, mod-lt, div-add-mod', le_of_mul-le-mul_left, eq_of_mul-eq-mul_left, mul-pos}
use native.Mathlib.Decide.{dec_lt, ℕ_discrete}
use native.Mathlib.Omega.{arith}

-- c is the square of a whole number
pub record PerfectSquare (c : ℕ) : Type 0 where
  pub root : ℕ
  pub is : root * root ≡ c

-- squares rise with their roots
pub square-rising : {v w : ℕ} → v < w → v * v < w * w
square-rising {v} {w} h = omega (arith, mul-le-mul h h)

-- a smaller square has a smaller root
pub square-below : (v w : ℕ) → v * v < w * w → v < w
square-below v w h = by_cases (dec_lt v w) (λ l. l) (λ l. omega (arith, mul-le-mul {n₁ = w} {m₁ = w} {n₂ = v} {m₂ = v} (omega arith) (omega arith)))

-- equal squares have equal roots
pub square-same : (v w : ℕ) → v * v ≡ w * w → v ≡ w
square-same v w e =
    by_cases (dec_lt v w) (λ l. omega (arith, square-rising l))
    (λ l. by_cases (dec_lt w v) (λ k. omega (arith, square-rising k)) (λ k. omega arith))

-- the root of a square that four divides is even
pub square-of-four : (v k : ℕ) → v * v ≡ 4 * k → (v ≡ 2 * (v / 2)) × (v / 2 * (v / 2) ≡ k)
square-of-four v k e =
    by_cases (ℕ_discrete (v % 2) 0)
    (λ z. let p : v ≡ 2 * (v / 2) = omega arith in (p, omega (arith, ap (λ (x : ℕ). x * x) p)))
    (λ z. let p : v ≡ 1 + 2 * (v / 2) = omega arith in omega (arith, ap (λ (x : ℕ). x * x) p))

-- One step of the descent. Let b be q × a + r, and d be a × c − q × b: then d × a = b × r, so that d² = r² × c
module _ (a b c q r d : ℕ) (p : 0 < a) (e : b * b ≡ a * a * c) (b-is : b ≡ q * a + r) where
  descended : a * c ≡ d + q * b → d * d ≡ r * r * c
  descended d-is =
      let m : a * d ≡ b * r = omega (arith, ap (λ (x : ℕ). a * x) d-is, ap (λ (x : ℕ). b * x) b-is) in
      eq_of_mul-eq-mul_left (a * a) (mul-pos p p) (d * d) (r * r * c) (omega (arith, ap (λ (x : ℕ). x * x) m, ap (λ (x : ℕ). x * (r * r)) e))

  -- the subtraction is one of whole numbers
  above : q * b ≤ a * c
  above = le_of_mul-le-mul_left {k = a} (omega (arith, ap (λ (x : ℕ). b * x) b-is)) p

-- the descent on a: with q and r the quotient and the remainder of b by a, c is q² where r is 0, and else r, which is below a, takes a's place
descent : (n a b c : ℕ) → a ≤ n → 0 < a → b * b ≡ a * a * c → PerfectSquare c
descent zero a b c l p e = absurd (omega arith)
descent (suc n) a b c l p e =
    let b-is : b ≡ b / a * a + b % a = sym (div-add-mod' b a) in
    let h : b % a < a = mod-lt b p in
    by_cases (ℕ_discrete (b % a) 0)
    (λ z.
    let s : b ≡ b / a * a = omega arith in
    record {
      root = b / a;
      is = eq_of_mul-eq-mul_left (a * a) (mul-pos p p) (b / a * (b / a)) c (omega (arith, ap (λ (x : ℕ). x * x) s));
    })
    (λ z.
    let d = a * c - b / a * b in
    descent n (b % a) d c (omega arith) (omega arith)
    (descended a b c (b / a) (b % a) d p e b-is (omega (arith, above a b c (b / a) (b % a) d p e b-is))))

-- where a² × c is a square, so is c
pub square-part : (a b c : ℕ) → 0 < a → b * b ≡ a * a * c → PerfectSquare c
square-part a b c p e = descent a a b c (omega arith) p e
