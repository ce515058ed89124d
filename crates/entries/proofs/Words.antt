-- What the upper words of u² R and of u² tell of their order beside a power of two. Assumes nothing.
use mathlib.Core.Path.{◌≡◌, refl, ap, sym, ◌∙◌}
use mathlib.Core.List.{[], ◌∷◌}
use mathlib.Core.Logic.{by_cases}
use Prim.Native.Nat.{ℕ, zero, suc, ◌+◌, ◌*◌, ◌-◌, ◌/◌, ◌%◌, ◌^◌, ◌≤◌, ◌<◌}
use native.Mathlib.Nat.{div-lt_iff_lt-mul, le-div_iff_mul-le, mul-div_cancel}
use native.Mathlib.Decide.{dec_lt}
use native.Mathlib.Omega.{arith}
use borrow.Author.Tests.{lt-ltb, le-ltb}
use lib.Dec.{ltb}
use lib.Pow.{pow_pos}
use Rattle.numbers.proofs.Exponents.{power-of}

-- a floored quotient is below m where the number is below m times the divisor
ltb-div : (n d m : ℕ) → 0 < d → ltb (n / d) m ≡ ltb n (m * d)
ltb-div n d m h =
    by_cases (dec_lt n (m * d))
    (λ l. rw (lt-ltb n (m * d) l, lt-ltb (n / d) m ((div-lt_iff_lt-mul h).1 l)))
    (λ l. rw (le-ltb n (m * d) (omega arith), le-ltb (n / d) m ((le-div_iff_mul-le h).1 (omega arith))))

-- so a factor on both sides changes nothing
ltb-scaled : (n m d : ℕ) → 0 < d → ltb n m ≡ ltb (n * d) (m * d)
ltb-scaled n m d h = ap (λ (x : ℕ). ltb x m) (sym (mul-div_cancel n h)) ∙ ltb-div (n * d) d m h

-- ---- u² R, above its lower 96 bits

-- n R by n's words
top-is : (n r : ℕ) → n * r / 2 ^ 96 ≡ (n / 2 ^ 64 * r + n % 2 ^ 64 * r / 2 ^ 64) / 2 ^ 32
top-is n r =
    let parts : n ≡ 2 ^ 64 * (n / 2 ^ 64) + n % 2 ^ 64 = omega arith in
    omega (arith, ap (λ (x : ℕ). x * r) parts)

-- the code's shift drops no bit
root-limit : (p : ℕ) → p ≤ 1 → 2 ^ 42 * 2 ^ p % 2 ^ 64 ≡ 2 ^ (42 + p)
root-limit zero h = refl
root-limit (suc zero) h = refl
root-limit (suc (suc p)) h = absurd (omega arith)

-- u² R is below 2^(138 + p) where what stands above 2^96 is below 2^(42 + p)
pub root_passes_is : (u r p : ℕ) → p ≤ 1
    → ltb ((u * u / 2 ^ 64 * r + u * u % 2 ^ 64 * r / 2 ^ 64) / 2 ^ 32) (2 ^ 42 * 2 ^ p % 2 ^ 64) ≡ ltb (u * u * r) (2 ^ (138 + p))
root_passes_is u r p h =
    rw (← top-is (u * u) r, root-limit p h)
    (ltb-div (u * u * r) (2 ^ 96) (2 ^ (42 + p)) (pow_pos 96)
    ∙ ap (λ (x : ℕ). ltb (u * u * r) x) (sym (power-of (138 + p) ((42 + p) ∷ 96 ∷ []) (omega arith))))

-- ---- u², above its lower word

-- the code's shift drops no bit
inverse-limit : (r p : ℕ) → r ≤ 2 ^ 16 → p ≤ 1 → r * 2 ^ (42 - p) % 2 ^ 64 ≡ r * 2 ^ (42 - p)
inverse-limit r zero k h = omega arith
inverse-limit r (suc zero) k h = omega arith
inverse-limit r (suc (suc p)) k h = absurd (omega arith)

-- the limit of u² by its factors
inverse-power : (p : ℕ) → p ≤ 1 → 2 ^ (42 - p) * (2 ^ 64 * 2 ^ (16 + p)) ≡ 2 ^ 122
inverse-power p h = sym (power-of 122 ((42 - p) ∷ 64 ∷ (16 + p) ∷ []) (omega arith))

-- u² 2^(16 + p) is below R 2^122 where the upper word of u² is below R 2^(42 − p)
pub inverse_root_passes_is : (u r p : ℕ) → r ≤ 2 ^ 16 → p ≤ 1
    → ltb (u * u / 2 ^ 64) (r * 2 ^ (42 - p) % 2 ^ 64) ≡ ltb (u * u * 2 ^ (16 + p)) (r * 2 ^ 122)
inverse_root_passes_is u r p k h =
    rw (inverse-limit r p k h)
    (ltb-div (u * u) (2 ^ 64) (r * 2 ^ (42 - p)) (pow_pos 64)
    ∙ ltb-scaled (u * u) (r * 2 ^ (42 - p) * 2 ^ 64) (2 ^ (16 + p)) (pow_pos (16 + p))
    ∙ ap (λ (x : ℕ). ltb (u * u * 2 ^ (16 + p)) x) (regroup r (2 ^ (42 - p)) (2 ^ 64) (2 ^ (16 + p)) ∙ ap (λ (x : ℕ). r * x) (inverse-power p h)))
  where
    regroup : (a b c d : ℕ) → a * b * c * d ≡ a * (b * (c * d))
    regroup a b c d = omega arith
