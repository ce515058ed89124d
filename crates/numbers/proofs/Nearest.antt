-- `nearest_root` gives the nearest whole number where there is no tie; where there is none; and the test by which a table's entry is it.
-- Assumes nothing.
use mathlib.Core.Path.{◌≡◌, ap}
use mathlib.Core.Bool.{Bool, ◌&&◌}
use mathlib.Core.Logic.{by_cases}
use Prim.Native.Nat.{ℕ, zero, suc, ◌+◌, ◌*◌, ◌-◌, ◌^◌, ◌≤◌, ◌<◌}
use native.Mathlib.Nat.{pow-suc, mul-le-mul, mul-le-mul_right, le_refl, lt_of_le_of_lt, lt_of_lt_of_le}
use native.Mathlib.Decide.{dec_lt}
use native.Mathlib.Omega.{arith}
use mir.Facts.{and_yes, ltb_yes, yes_ltb, leb_yes, yes_leb}
use lib.Dec.{T, ltb, leb}
use Rattle.numbers.specs.Nearest.{half_below, nearest_root, Nearest, Tie, WithinOne}
use Rattle.numbers.proofs.Greatest.{Antitone, greatest-is, greatest-upto}

-- ---- no tie

-- an odd number times d is no multiple of 2^j, where d is from 1 to below 2^j
odd-multiple : (j c d v : ℕ) → 0 < d → d < 2 ^ j → (2 * v + 1) * d ≡ c * 2 ^ j → ⊥
odd-multiple zero c d v some small e = omega arith
odd-multiple (suc j) c d v some small e =
    let split : v * d + v * d + d ≡ c * 2 ^ j + c * 2 ^ j = omega (arith, e, ap (λ (x : ℕ). c * x) (pow-suc 2 j)) in
    let half : ℕ = c * 2 ^ j - v * d in
    let twice : d ≡ 2 * half = omega arith in
    let halved : (2 * v + 1) * half ≡ c * 2 ^ j = omega (arith, ap (λ (x : ℕ). v * x) twice) in
    odd-multiple j c half v (omega arith) (omega (arith, pow-suc 2 j)) halved

-- so there is no tie where 4 n is a multiple of such a power
pub no_tie : (j c d n : ℕ) → 0 < d → d < 2 ^ j → 4 * n ≡ c * 2 ^ j → (w : ℕ) → Tie d n w → ⊥
no_tie j c d n some small e w tie = odd-multiple j c d (2 * w * w + 2 * w) some small (omega arith)

-- ---- the nearest

scaled : (d : ℕ) {v w : ℕ} → v ≤ w → v * v * d ≤ w * w * d
scaled d h = mul-le-mul_right d (mul-le-mul h h)

-- what the test says of the number after w, and of w: the halves above and below it
module _ (d n w : ℕ) where
  after : 2 * suc w - 1 ≡ 2 * w + 1
  after = omega arith

  yes-next : (2 * w + 1) * (2 * w + 1) * d < 4 * n → T (half_below d n (suc w))
  yes-next h = let i : (2 * suc w - 1) * (2 * suc w - 1) * d < 4 * n = rw after h in yes_ltb i

  next-yes : T (half_below d n (suc w)) → (2 * w + 1) * (2 * w + 1) * d < 4 * n
  next-yes t = let i : (2 * suc w - 1) * (2 * suc w - 1) * d < 4 * n = ltb_yes t in rw after at i

  yes-half : (2 * w - 1) * (2 * w - 1) * d < 4 * n → T (half_below d n w)
  yes-half h = yes_ltb h

  half-yes : T (half_below d n w) → (2 * w - 1) * (2 * w - 1) * d < 4 * n
  half-yes t = ltb_yes t

half-antitone : (d n : ℕ) → Antitone (half_below d n)
half-antitone d n v w h t =
    let i : 2 * v - 1 ≤ 2 * w - 1 = omega arith in
    yes-half d n v (lt_of_le_of_lt (scaled d i) (half-yes d n w t))

-- the two middles next to w tell of all
middles : (d n w : ℕ) → (2 * w - 1) * (2 * w - 1) * d < 4 * n → 4 * n < (2 * w + 1) * (2 * w + 1) * d → Nearest d n w
middles d n w low high =
    record {
      less = λ v h. let i : v + w ≤ 2 * w - 1 = omega arith in lt_of_le_of_lt (scaled d i) low;
      more = λ v h. let i : 2 * w + 1 ≤ v + w = omega arith in lt_of_lt_of_le high (scaled d i);
    }

-- the numbers whose half below is under √(n / d) are those up to `nearest_root`, where some number below 2^b is too large
pub half-upto : (b d n x : ℕ) → 0 < n → x < 2 ^ b → 4 * n ≤ (2 * x - 1) * (2 * x - 1) * d → (w : ℕ) → half_below d n w ≡ leb w (nearest_root b d n)
half-upto b d n x some small large =
    greatest-upto b (half_below d n) (half-antitone d n) (yes-half d n 0 (omega arith)) x (λ t. let i = half-yes d n x t in omega arith) small

-- so it is nearest, where no tie occurs
pub nearest-root : (b d n x : ℕ) → 0 < n → x < 2 ^ b → 4 * n ≤ (2 * x - 1) * (2 * x - 1) * d → ((w : ℕ) → Tie d n w → ⊥)
    → Nearest d n (nearest_root b d n)
nearest-root b d n x some small large untied =
    let g : ℕ = nearest_root b d n in
    let upto : (w : ℕ) → half_below d n w ≡ leb w g = half-upto b d n x some small large in
    let low : T (half_below d n g) = rw upto (yes_leb (le_refl g)) in
    let high : 4 * n ≤ (2 * g + 1) * (2 * g + 1) * d =
    by_cases (dec_lt ((2 * g + 1) * (2 * g + 1) * d) (4 * n)) (λ i. let l : suc g ≤ g = leb_yes (rw upto at (yes-next d n g i)) in omega arith) (λ i. omega arith) in
    middles d n g (half-yes d n g low)
    (by_cases (dec_lt (4 * n) ((2 * g + 1) * (2 * g + 1) * d)) (λ i. i) (λ i. absurd (untied g (omega arith))))

-- the nearest is less than one away
pub nearest-within : (d n w : ℕ) → 0 < n → Nearest d n w → WithinOne d n w
nearest-within d n zero some near = record { low = omega arith; high = omega (arith, near.more 1 (omega arith)) }
nearest-within d n (suc w) some near =
    let e : suc w - 1 ≡ w = omega arith in
    record { low = rw e (omega (arith, near.less w (omega arith))); high = omega (arith, near.more (suc (suc w)) (omega arith)) }

-- the test that w is it, as a table computes it
abbrev pub nearest_test : ℕ → ℕ → ℕ → ℕ → Bool
nearest_test b d n w = half_below d n w && ltb (4 * n) ((2 * w + 1) * (2 * w + 1) * d) && ltb w (2 ^ b)

pub nearest-tested : (b d n w : ℕ) → T (nearest_test b d n w) → nearest_root b d n ≡ w
nearest-tested b d n w t =
    let above : Bool = ltb (4 * n) ((2 * w + 1) * (2 * w + 1) * d) in
    let outer = and_yes (half_below d n w && above) (ltb w (2 ^ b)) t in
    let inner = and_yes (half_below d n w) above outer.0 in
    let over : 4 * n < (2 * w + 1) * (2 * w + 1) * d = ltb_yes inner.1 in
    greatest-is b (half_below d n) (half-antitone d n) w inner.0 (λ passes. let under = next-yes d n w passes in omega arith) (ltb_yes outer.1)
