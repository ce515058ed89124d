-- n over √q: its floor, its place above the floor, and its roundings; an offset is at most the radius. Assumes nothing.
use mathlib.Core.Path.{◌≡◌, refl, sym, ap}
use mathlib.Core.Logic.{⊎_elim, by_cases}
use mathlib.Core.Bool.{Bool, true, false, cond, not}
use mathlib.Core.List.{[], ◌∷◌}
use Prim.Native.Nat.{ℕ, zero, suc, ◌+◌, ◌*◌, ◌-◌, ◌^◌, ◌≤◌, ◌<◌}
use native.Mathlib.Nat.{mul-le-mul, mul-le-mul_left, mul-le-mul_right}
use native.Mathlib.Numerals.{add-one}
use native.Mathlib.Decide.{dec_lt}
use native.Mathlib.Omega.{arith}
use borrow.Author.Tests.{eq-eqb, ne_eqb}
use lib.Dec.{eqb, leb→le, le→leb}
use lib.IntN.{ℤ, pos, negsuc, nat_abs, ◌+ℤ◌, +ℤ_one}
use Rattle.kinds.specs.declared.Mode.{Mode}
use Rattle.kinds.specs.declared.Mode.TheVariants.{Nearest, Up, Down, TowardZero}
use Rattle.kinds.specs.Rounding.{exact, below, half, above, rounded_by}
use Rattle.kinds.specs.Guard.{place_of}
use Rattle.kinds.proofs.Directed as directed
use Rattle.kinds.proofs.Neighbours.{taken_of, next-most}
use Rattle.kinds.proofs.Places.{says-place}
use Rattle.kinds.proofs.Ties.{toward_zero, nearest-lower, nearest-next}
use Rattle.numbers.proofs.Greatest.{greatest-found, greatest-above, greatest-is, square_fits, square-antitone}
use Rattle.numbers.proofs.Squares.{square-rising}
use Rattle.numbers.proofs.Ring.{v, #, ◌⊕◌, ◌⊗◌, ◌⊙◌⊑◌, nlin}
use Rattle.words.specs.Signed.{with_sign, is_negative}
use Rattle.words.proofs.Differences.{abs-sign}
use Rattle.cutter.specs.Offset.{floor_over, place_over, rounded_over, offset_of}

-- ---- the floor

-- its square times q is at most n²
pub floor-low : (n q : ℕ) → floor_over n q * floor_over n q * q ≤ n * n
unfolding floor_over
floor-low n q =
    let f = greatest-found 32 (square_fits q (n * n)) (le→leb (0 * 0 * q) (n * n) (omega arith)) in
    leb→le (floor_over n q * floor_over n q * q) (n * n) f.passes

-- no whole number below 2^32 of which that holds is larger
pub floor-most : (n q k : ℕ) → k * k * q ≤ n * n → k < 2 ^ 32 → k ≤ floor_over n q
unfolding floor_over
floor-most n q k h l = greatest-above 32 (square_fits q (n * n)) (square-antitone q (n * n)) k (le→leb (k * k * q) (n * n) h) l

-- and of the next it does not hold: it is the floor, of every n below 2^32 and q above 0
pub floor-next : (n q : ℕ) → n < 2 ^ 32 → 0 < q → n * n < suc (floor_over n q) * suc (floor_over n q) * q
floor-next n q small some =
    let t : ℕ = suc (floor_over n q) in
    by_cases (dec_lt (n * n) (t * t * q)) (λ h. h)
    (λ h.
    by_cases (dec_lt n t)
    (λ l. omega (arith, square-rising l, mul-le-mul_left (t * t) some))
    (λ l. omega (arith, floor-most n q t (omega arith) (omega arith))))

-- so it is the one of which that holds, and not of the next
pub floor-is : (n q t : ℕ) → t * t * q ≤ n * n → n * n < suc t * suc t * q → t < 2 ^ 32 → floor_over n q ≡ t
unfolding floor_over
floor-is n q t low high small =
    greatest-is 32 (square_fits q (n * n)) (square-antitone q (n * n)) t (le→leb (t * t * q) (n * n) low)
    (λ h. omega (arith, leb→le (suc t * suc t * q) (n * n) h)) small

-- ---- the place, by what the square of 2t or 2t + 1, times q, leaves of 4·n²

module _ (n q t left : ℕ) (some : 0 < q) where
  pub place-odd : (2 * t + 1) * (2 * t + 1) * q + left ≡ 4 * (n * n) → place_over n q t ≡ place_of true (not (eqb left 0))
  unfolding place_over
  place-odd is =
      by_cases (dec_lt 0 left)
      (λ h. simp (ne_eqb left 0 (omega arith)) (says-place _ _ _ _ above (omega arith, omega arith)))
      (λ h. simp (eq-eqb left 0 (omega arith)) (says-place _ _ _ _ half (omega arith, omega arith)))

  pub place-even : 2 * t * (2 * t) * q + left ≡ 4 * (n * n) → left < (2 * (2 * t) + 1) * q
      → place_over n q t ≡ place_of false (not (eqb left 0))
  unfolding place_over
  place-even is last =
      by_cases (dec_lt 0 left)
      (λ h. simp (ne_eqb left 0 (omega arith)) (says-place _ _ _ _ below (omega arith, omega arith)))
      (λ h. simp (eq-eqb left 0 (omega arith)) (says-place _ _ _ _ exact (omega arith)))

-- ---- the roundings

-- the rounding of a floor and a place that were found
pub rounded-is : (mode : Mode) (negative : Bool) (n q t : ℕ) (a b : Bool) → floor_over n q ≡ t → place_over n q t ≡ place_of a b
    → rounded_over mode negative n q ≡ rounded_by mode negative t (place_of a b)
unfolding rounded_over
rounded-is mode negative n q t a b e p = rw (e, p)

-- every rounding is at most one above the floor
pub rounded-next : (mode : Mode) (negative : Bool) (n q : ℕ) → rounded_over mode negative n q ≤ suc (floor_over n q)
unfolding rounded_over
rounded-next mode negative n q = next-most mode negative (floor_over n q) (place_over n q (floor_over n q))

-- the square of the floor, times q, is n²
abbrev pub Reached : ℕ → ℕ → Type 0
Reached n q = floor_over n q * floor_over n q * q ≡ n * n

-- then no rounding goes on
pub rounded-exact : (mode : Mode) (negative : Bool) (n q : ℕ) → Reached n q → rounded_over mode negative n q ≡ floor_over n q
unfolding rounded_over place_over
rounded-exact mode negative n q e = directed.rounded-exact _ _ _ _ _ _ mode e

-- anywhere else down goes on where the number is negative, and up where it is not
pub rounded-down : (negative : Bool) (n q : ℕ) → (Reached n q → ⊥) → rounded_over Down negative n q ≡ cond negative (suc (floor_over n q)) (floor_over n q)
unfolding rounded_over place_over
rounded-down negative n q h = directed.rounded-down _ _ _ _ _ _ h

pub rounded-up : (negative : Bool) (n q : ℕ) → (Reached n q → ⊥) → rounded_over Up negative n q ≡ cond (not negative) (suc (floor_over n q)) (floor_over n q)
unfolding rounded_over place_over
rounded-up negative n q h = directed.rounded-up _ _ _ _ _ _ h

-- r is at most a half from n over √q
abbrev pub WithinHalf : ℕ → ℕ → ℕ → Type 0
WithinHalf r n q = ((2 * r - 1) * (2 * r - 1) * q ≤ 4 * (n * n)) × (4 * (n * n) ≤ (2 * r + 1) * (2 * r + 1) * q)

-- past an exact floor the midpoint is not reached
odd-past : (t c q : ℕ) → t * t * q ≡ c → 4 * c ≤ (t + suc t) * (t + suc t) * q
odd-past t c q e = omega arith

module _ (n q t : ℕ) where
  -- the floor is where the midpoint above it is not passed,
  half-below : t * t * q ≤ n * n → 4 * (n * n) ≤ (t + suc t) * (t + suc t) * q → WithinHalf t n q
  half-below low high =
      let least : (2 * t - 1) * (2 * t - 1) * q ≤ 2 * t * (2 * t) * q =
      mul-le-mul_right q (mul-le-mul {n₁ = 2 * t - 1} {m₁ = 2 * t - 1} {n₂ = 2 * t} {m₂ = 2 * t} (omega arith) (omega arith)) in
      let middle : (t + suc t) * (t + suc t) * q ≡ (2 * t + 1) * (2 * t + 1) * q = omega arith in
      (omega arith, omega arith)

  -- and the next number where it is reached
  half-above : (t + suc t) * (t + suc t) * q ≤ 4 * (n * n) → n * n < suc t * suc t * q → WithinHalf (suc t) n q
  half-above low high =
      let middle : (t + suc t) * (t + suc t) * q ≡ (2 * suc t - 1) * (2 * suc t - 1) * q =
      ap (λ (m : ℕ). m * m * q) {x = t + suc t} {y = 2 * suc t - 1} (omega arith) in
      (omega arith, omega arith)

-- what each says of n over √q itself, of every n below 2^32 and q above 0
module _ (negative : Bool) (n q : ℕ) (small : n < 2 ^ 32) (some : 0 < q) where
  -- toward zero the floor is taken, which is never above it
  pub toward-zero-within : rounded_over TowardZero negative n q * rounded_over TowardZero negative n q * q ≤ n * n
  unfolding rounded_over
  toward-zero-within = rw (toward_zero negative (floor_over n q)) (floor-low n q)

  -- to the nearest it is at most a half away, on either side
  pub nearest-within : WithinHalf (rounded_over Nearest negative n q) n q
  unfolding rounded_over place_over
  nearest-within =
      let t : ℕ = floor_over n q in
      let past : t * t * q ≡ n * n → 4 * (n * n) ≤ (t + suc t) * (t + suc t) * q = λ e. odd-past t (n * n) q e in
      ⊎_elim
      (λ e. rw e (half-below n q t (floor-low n q) (nearest-lower negative t _ _ _ _ past (floor-low n q) e)))
      (λ e. rw e (half-above n q t (nearest-next negative t _ _ _ _ past (floor-low n q) e) (floor-next n q small some)))
      (taken_of Nearest negative t (place_over n q t))

-- ---- a component of the normal times the radius

module _ (component radius q : ℕ) (some : 0 < q) (part : component * component ≤ q) where
  -- a whole number at or below the quotient is at most the radius
  pub quotient-most : (t : ℕ) → t * t * q ≤ component * radius * (component * radius) → t ≤ radius
  quotient-most t low =
      by_cases (dec_lt radius t)
      (λ h.
      let no : 1 ≤ 0 =
      nlin (component ∷ radius ∷ q ∷ t ∷ [])
      ((v 3 ⊕ v 1) ⊗ v 2 ⊙ v 1 ⊕ # 1 ⊑ v 3
      ∷ # 1 ⊙ v 3 ⊗ v 3 ⊗ v 2 ⊑ v 0 ⊗ v 1 ⊗ (v 0 ⊗ v 1)
      ∷ v 1 ⊗ v 1 ⊙ v 0 ⊗ v 0 ⊑ v 2
      ∷ v 3 ⊙ # 1 ⊑ v 2
      ∷ # 1 ⊙ # 1 ⊑ v 3
      ∷ [])
      (# 1) (# 0) tt (omega arith) in
      omega arith)
      (λ h. omega arith)

  -- and so is the quotient, rounded: at the radius itself it is exact
  pub rounded-most : (mode : Mode) (negative : Bool) → rounded_over mode negative (component * radius) q ≤ radius
  rounded-most mode negative =
      let n : ℕ = component * radius in
      let most : floor_over n q ≤ radius = quotient-most (floor_over n q) (floor-low n q) in
      by_cases (dec_lt (floor_over n q) radius)
      (λ h. omega (arith, rounded-next mode negative n q))
      (λ h.
      let is : floor_over n q ≡ radius = omega arith in
      let low : radius * radius * q ≤ n * n = rw is at (floor-low n q) in
      let high : n * n ≤ radius * radius * q = omega (arith, mul-le-mul_left (radius * radius) part) in
      let same : floor_over n q * floor_over n q * q ≡ n * n = rw is (omega arith) in
      omega (arith, rounded-exact mode negative n q same))

-- an offset is at most the radius
pub offset-most : (mode : Mode) (component : ℤ) (radius q : ℕ) → 0 < q → nat_abs component * nat_abs component ≤ q
    → nat_abs (offset_of mode component radius q) ≤ radius
unfolding offset_of
offset-most mode component radius q some part =
    rw (abs-sign (is_negative component)) (rounded-most (nat_abs component) radius q some part mode (is_negative component))

-- an offset from the sign and the magnitude of its component
pub offset-parts : (mode : Mode) (component : ℤ) (radius q : ℕ) (negative : Bool) (n r : ℕ)
    → negative ≡ is_negative component → n ≡ nat_abs component → r ≡ rounded_over mode negative (n * radius) q
    → with_sign negative r ≡ offset_of mode component radius q
unfolding offset_of
offset-parts mode component radius q negative n r s a e = cc

-- ---- down and up

-- with the sign put on, up is one above down
one-above : (negative : Bool) (t : ℕ) → with_sign negative (cond (not negative) (suc t) t) ≡ with_sign negative (cond negative (suc t) t) +ℤ pos 1
unfolding with_sign
one-above false t = ap pos (sym (add-one t))
one-above true zero = refl
one-above true (suc t) = sym (+ℤ_one (negsuc (suc t)))

module _ (component : ℤ) (radius q : ℕ) where
  -- at an exact floor the offsets are equal, and anywhere else one apart
  pub offsets-same : Reached (nat_abs component * radius) q → offset_of Down component radius q ≡ offset_of Up component radius q
  unfolding offset_of
  offsets-same e = rw (rounded-exact Down _ _ _ e, rounded-exact Up _ _ _ e)

  pub offsets-apart : (Reached (nat_abs component * radius) q → ⊥) → offset_of Up component radius q ≡ offset_of Down component radius q +ℤ pos 1
  unfolding offset_of
  offsets-apart h =
      rw (rounded-down _ _ _ h, rounded-up _ _ _ h) (one-above (is_negative component) (floor_over (nat_abs component * radius) q))
