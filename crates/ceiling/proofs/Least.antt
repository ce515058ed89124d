-- The root rounded up is the least whole number whose square is at least n. Assumes nothing.
use mathlib.Core.Path.{◌≡◌}
use mathlib.Core.Bool.{Bool}
use mathlib.Core.Logic.{by_cases}
use Prim.Native.Nat.{ℕ, suc, ◌*◌, ◌^◌, ◌≤◌, ◌<◌}
use native.Mathlib.Nat.{mul-le-mul}
use native.Mathlib.Decide.{dec_lt}
use native.Mathlib.Omega.{arith}
use lib.Dec.{leb, leb→le, le→leb}
use Rattle.numbers.proofs.Least.{Monotone, least-below, least-passes}
use Rattle.numbers.proofs.Squares.{square-rising, square-below}
use Rattle.ceiling.specs.Root.{ceiling_root}

-- the squares from n
abbrev reaches : ℕ → ℕ → Bool
reaches n s = leb n (s * s)

rising : (n : ℕ) → Monotone (reaches n)
rising n a b h t = le→leb n (b * b) (omega (arith, leb→le n (a * a) t, mul-le-mul h h))

-- its square is at least n
pub ceiling-reaches : (n : ℕ) → n ≤ 2 ^ 80 → n ≤ ceiling_root n * ceiling_root n
unfolding ceiling_root
ceiling-reaches n h =
    leb→le n (ceiling_root n * ceiling_root n)
    (least-passes 40 (reaches n) (rising n) (2 ^ 40) (le→leb n (2 ^ 40 * 2 ^ 40) (omega arith)) (omega arith))

-- no smaller number's is
pub ceiling-least : (n s : ℕ) → n ≤ s * s → ceiling_root n ≤ s
unfolding ceiling_root
ceiling-least n s h = least-below 40 (reaches n) (rising n) s (le→leb n (s * s) h)

-- so a number whose square is at least n, while the square of the one before it is not, is the root rounded up
pub ceiling-is : (n s : ℕ) → n ≤ 2 ^ 80 → n ≤ suc s * suc s → s * s < n → ceiling_root n ≡ suc s
ceiling-is n s most high low =
    omega (arith, ceiling-least n (suc s) high, square-below s (ceiling_root n) (omega (arith, ceiling-reaches n most)))

-- exact on squares
pub ceiling-square : (s : ℕ) → s ≤ 2 ^ 40 → ceiling_root (s * s) ≡ s
ceiling-square s most =
    let r : ℕ = ceiling_root (s * s) in
    let low : r ≤ s = ceiling-least (s * s) s (omega arith) in
    let high : s * s ≤ r * r = ceiling-reaches (s * s) (omega (arith, mul-le-mul most most)) in
    by_cases (dec_lt r s) (λ l. omega (arith, square-rising l)) (λ l. omega arith)
