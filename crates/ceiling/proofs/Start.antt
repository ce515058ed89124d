-- The start c, the raw root rounded, is the root of n rounded up or one below it: (c − 1)² < n ≤ (c + 1)². Assumes nothing.
use Prim.Native.Nat.{ℕ, suc, ◌+◌, ◌-◌, ◌*◌, ◌/◌, ◌%◌, ◌^◌, ◌≤◌, ◌<◌}
use mathlib.Core.Path.{◌≡◌, sym, ap, ◌∙◌, subst}
use mathlib.Core.List.{[], ◌∷◌}
use mathlib.Core.Logic.{by_cases}
use native.Mathlib.Nat.{mul-le-mul, mul-pos, mul-div-le, lt-mul-div-succ, lt_of_mul-lt-mul_left, le_of_mul-le-mul_left, pow-le-pow_right}
use native.Mathlib.Decide.{dec_lt}
use native.Mathlib.Omega.{arith}
use lib.Pow.{pow_pos, pow-add}
use mir.Syntax.{w64}
use mir.Val.{Fits}
use Rattle.numbers.proofs.Powers.{power-sum}
use Rattle.numbers.proofs.Ring.{E, v, #, ◌⊕◌, ◌⊗◌, ◌⊙◌⊑◌, nlin×}
use Rattle.numbers.proofs.Squares.{square-below}
use Rattle.kinds.specs.declared.Op.TheVariants.{Root}
use Rattle.significand.specs.Width.{k32, t32}
use Rattle.significand.specs.Steps.{raw_of}
use Rattle.significand.specs.Distance.{Near, bound_of}
use Rattle.significand.proofs.Accepted.{raw-near}
use Rattle.leading.specs.Leading.{LeadingOf}
use Rattle.leading.proofs.Exponents.{exponent-below, parity-most, parity-power, halves-low, halves-high}
use Rattle.ceiling.specs.Root.{ceiling_root}
use Rattle.ceiling.proofs.Least.{ceiling-is}

abbrev vn : E
vn = v 0

abbrev vy : E
vy = v 1

abbrev vp : E
vp = v 2

abbrev vh : E
vh = v 3

abbrev vs : E
vs = v 4

abbrev vx : E
vx = v 5

-- n · 2^23 lies from y to y + 1 times P and the square of H; S is 2^28 over H
module _ (n y P H S : ℕ) (some : 0 < H) (whole : S * H ≡ 2 ^ 28) where
  squared : S * S * (H * H) ≡ 2 ^ 56
  squared = omega (arith, ap (λ (x : ℕ). x * x) whole)

  -- a number x below the exact raw root is below S times the root of n
  root_below : (x : ℕ) → x * x + 1 ≤ y * P * 2 ^ 33 → y * (H * H * P) ≤ n * 2 ^ 23 → x * x + 1 ≤ n * (S * S)
  root_below x under power =
      nlin× (n ∷ y ∷ P ∷ H ∷ S ∷ x ∷ []) (# 8388608 ⊗ (vh ⊗ vh))
      (# 8388608 ⊗ (vh ⊗ vh) ⊙ vx ⊗ vx ⊕ # 1 ⊑ vy ⊗ vp ⊗ # 8589934592
      ∷ # 72057594037927936 ⊙ vy ⊗ (vh ⊗ vh ⊗ vp) ⊑ vn ⊗ # 8388608
      ∷ vn ⊗ # 8388608 ⊙ # 72057594037927936 ⊑ vs ⊗ vs ⊗ (vh ⊗ vh)
      ∷ [])
      (vx ⊗ vx ⊕ # 1) (vn ⊗ (vs ⊗ vs)) tt (omega (arith, mul-pos some some)) (omega (arith, squared))

  -- and one above it, by 32 more, above
  root-above : (x : ℕ) → P ≤ 2 → y * P * 2 ^ 33 ≤ x * x → n * 2 ^ 23 ≤ (y + 1) * (H * H * P) → n * (S * S) ≤ x * x + 2 ^ 34
  root-above x two over power =
      nlin× (n ∷ y ∷ P ∷ H ∷ S ∷ x ∷ []) (# 8388608 ⊗ (vh ⊗ vh))
      (# 8388608 ⊗ (vh ⊗ vh) ⊙ vy ⊗ vp ⊗ # 8589934592 ⊑ vx ⊗ vx
      ∷ # 72057594037927936 ⊙ vn ⊗ # 8388608 ⊑ (vy ⊕ # 1) ⊗ (vh ⊗ vh ⊗ vp)
      ∷ vn ⊗ # 8388608 ⊙ vs ⊗ vs ⊗ (vh ⊗ vh) ⊑ # 72057594037927936
      ∷ # 72057594037927936 ⊗ (vh ⊗ vh) ⊙ vp ⊑ # 2
      ∷ [])
      (vn ⊗ (vs ⊗ vs)) (vx ⊗ vx ⊕ # 17179869184) tt (omega (arith, mul-pos some some)) (omega (arith, squared))

-- the raw root's distance
abbrev D : ℕ
D = bound_of Root

-- the raw root is at least 2^28, less its distance
answer-least : (y P x : ℕ) → 2 ^ 23 ≤ y → 1 ≤ P → y * P * 2 ^ 33 ≤ x * x → 2 ^ 28 ≤ x
answer-least y P x y-least P-least over =
    by_cases (dec_lt x (2 ^ 28))
    (λ l.
    let s : 1 + x ≤ 2 ^ 28 = omega arith in
    omega (arith, mul-le-mul s s, mul-le-mul y-least P-least))
    (λ l. omega arith)

-- c is g over 2T, rounded: half of the next number after t, which is g over T, floored
module _ (n g T t : ℕ) (fine : 64 ≤ T) (at : T * t ≤ g) (next : g < T * (t + 1)) where
  below : (d : ℕ) → 2 * d + 1 ≤ t → (g - D) * (g - D) + 1 ≤ n * (2 * T * (2 * T)) → d * d < n
  below d h under =
      let a : T * (2 * d + 1) ≤ T * t = mul-le-mul {n₁ = T} {m₁ = 2 * d + 1} {n₂ = T} {m₂ = t} (omega arith) h in
      let b : d * (2 * T) ≤ g - D = omega arith in
      lt_of_mul-lt-mul_left (2 * T * (2 * T)) (omega (arith, mul-le-mul b b))

  above : (u : ℕ) → t + 2 ≤ 2 * u → 2 ^ 28 ≤ g + D → n * (2 * T * (2 * T)) ≤ (g + D) * (g + D) + 2 ^ 34 → n ≤ u * u
  above u h large over =
      let a : T * (t + 2) ≤ T * (2 * u) = mul-le-mul {n₁ = T} {m₁ = t + 2} {n₂ = T} {m₂ = 2 * u} (omega arith) h in
      let b : g + D + 32 ≤ u * (2 * T) = omega arith in
      le_of_mul-le-mul_left {k = 2 * T * (2 * T)} (omega (arith, mul-le-mul b b)) (mul-pos {m = 2 * T} {n = 2 * T} (omega arith) (omega arith))

-- c and the two bounds
pub record Starts (n c : ℕ) : Type 0 where
  pub least : 1 ≤ c
  pub most : c ≤ 2 ^ 22
  pub below : (c - 1) * (c - 1) < n
  pub above : n ≤ (c + 1) * (c + 1)

-- half of what the raw answer has for one of the root
abbrev unit_of : ℕ → ℕ
unit_of j = 2 ^ (27 - j / 2)

abbrev start_of : ℕ → ℕ → ℕ
start_of j g = (g / unit_of j + 1) / 2

module _ (n y j : ℕ) (leading : LeadingOf n y j) (small : n < 2 ^ 44) where
  pub half-most : j / 2 ≤ 27
  half-most = omega (arith, exponent-below n y j leading 44 small)

  unit-least : 64 ≤ unit_of j
  unit-least =
      let h : 6 ≤ 27 - j / 2 = omega (arith, exponent-below n y j leading 44 small) in
      pow-le-pow_right {n = 2} (omega arith) h

  unit-most : unit_of j ≤ 2 ^ 27
  unit-most =
      let h : 27 - j / 2 ≤ 27 = omega arith in
      pow-le-pow_right {n = 2} (omega arith) h

  unit-whole : 2 * unit_of j * 2 ^ (j / 2) ≡ 2 ^ 28
  unit-whole = omega (arith, power-sum (27 - j / 2) (j / 2) 27 (omega (arith, half-most)))

  module _ (g : ℕ) (raw : g ≡ raw_of k32 t32 Root y (j % 2)) where
    near : Near Root k32 t32 y (j % 2) D g
    near = raw-near k32 t32 (omega arith) Root y (j % 2) g leading.significand (parity-most j) raw

    -- the raw root's distance, without its scale
    raw-below : (g - D) * (g - D) + 1 ≤ y * 2 ^ (j % 2) * 2 ^ 33
    raw-below =
        let u : (g - D) * (g - D) * 2 ^ 23 < y * (2 ^ 56 * 2 ^ (j % 2)) = rw (pow-add 2 56 (j % 2)) at near.under in
        omega arith

    raw_above : y * 2 ^ (j % 2) * 2 ^ 33 ≤ (g + D) * (g + D)
    raw_above =
        let o : y * (2 ^ 56 * 2 ^ (j % 2)) < (g + D) * (g + D) * 2 ^ 23 = rw (pow-add 2 56 (j % 2)) at near.over in
        omega arith

    pub starts : Starts n (start_of j g)
    starts =
        let P : ℕ = 2 ^ (j % 2) in
        let H : ℕ = 2 ^ (j / 2) in
        let T : ℕ = unit_of j in
        let t : ℕ = g / T in
        let c : ℕ = (t + 1) / 2 in
        let at : T * t ≤ g = mul-div-le g T in
        let next : g < T * (t + 1) = lt-mul-div-succ g (omega (arith, unit-least)) in
        let large : 2 ^ 28 ≤ g + D = answer-least y P (g + D) leading.significand.least (parity-power j).0 raw_above in
        let one : 1 ≤ t =
        by_cases (dec_lt 0 t) (λ l. l)
        (λ l.
        let z : t ≡ 0 = omega arith in
        let w : g < T * 1 = subst (λ (x : ℕ). g < T * (x + 1)) z next in
        omega (arith, unit-most)) in
        let b : (c - 1) * (c - 1) < n =
        below n g T t unit-least at next (c - 1) (omega arith)
        (root_below n y P H (2 * T) (pow_pos (j / 2)) unit-whole (g - D) raw-below (halves-low n y j leading)) in
        let a : n ≤ (c + 1) * (c + 1) =
        above n g T t unit-least at next (c + 1) (omega arith) large
        (root-above n y P H (2 * T) (pow_pos (j / 2)) unit-whole (g + D) (parity-power j).1 raw_above (halves-high n y j leading)) in
        record {
          least = omega arith;
          most = omega (arith, square-below (c - 1) (2 ^ 22) (omega arith));
          below = b;
          above = a;
        }

    pub square-fits : Fits w64 (start_of j g * start_of j g)
    square-fits = omega (arith, mul-le-mul starts.most starts.most)

-- one test of squares settles it
module _ (n c : ℕ) (small : n < 2 ^ 44) (start : Starts n c) where
  pub stays : n ≤ c * c → c ≡ ceiling_root n
  stays h =
      let e : suc (c - 1) ≡ c = omega (arith, start.least) in
      sym (ceiling-is n (c - 1) (omega arith) (rw e h) start.below ∙ e)

  pub steps : c * c < n → c + 1 ≡ ceiling_root n
  steps h = sym (ceiling-is n c (omega arith) (omega (arith, start.above)) h ∙ omega arith)
