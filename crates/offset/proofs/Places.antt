-- From 2n over √q, floored, and what is left, to n over √q, rounded: the floor is half of it, its last bit and the remainder say the
-- place. Assumes nothing.
use Rattle.std.proofs.Common.{◌≡◌, ℕ, ◌+◌, ◌-◌, ◌*◌, ◌/◌, ◌%◌, ◌^◌, ◌<◌, ◌≤◌, Bool, not, eqb, [], ◌∷◌, sym, ap, ◌∙◌, subst, ap₂, mul-le-mul_right, mod-lt, mul-le-mul, arith, pow_pos, pow-add, w64, Fits, eq-eqb, ne_eqb}
use mathlib.Core.Logic.{by_cases}
use native.Mathlib.Nat.{div-add-mod, mul-div-le, lt-mul-div-succ, mul-div-mul_right}
use native.Mathlib.Decide.{dec_lt}
use Rattle.kinds.specs.declared.Mode.{Mode}
use Rattle.kinds.specs.Rounding.{rounded_by}
use Rattle.kinds.specs.Guard.{place_of}
use Rattle.numbers.proofs.Ring.{v, #, ◌⊕◌, ◌⊗◌, ◌⊙◌⊑◌, nlin}
use Rattle.cutter.specs.Offset.{floor_over, place_over, rounded_over}
use Rattle.cutter.proofs.Offsets as offsets
use Rattle.cutter.proofs.Offsets.{place-odd, place-even}
use Rattle.offset.specs.declared.Component.{Component}
use Rattle.offset.specs.Inverse.{length_most, ScaleOf, ComponentRange, QuotientRange, Started}
use Rattle.offset.proofs.Start.{start-most, start-below, start-above}

-- floor is 2n over √q, floored, and left is what 4·n² has more than its square times q
pub record DoubledOver (n q floor left : ℕ) : Type 0 where
  pub whole : floor * floor * q + left ≡ 4 * (n * n)
  pub last : left < (2 * floor + 1) * q

module _ (n q floor left : ℕ) (pos : 0 < q) (doubled : DoubledOver n q floor left) where
  place_is : place_over n q (floor / 2) ≡ place_of (eqb (floor % 2) 1) (not (eqb left 0))
  place_is =
      by_cases (dec_lt 0 (floor % 2))
      (λ h.
      let e : floor ≡ 2 * (floor / 2) + 1 = omega (arith, mod-lt floor {m = 2} (omega arith), div-add-mod floor 2) in
      simp (eq-eqb (floor % 2) 1 (omega (arith, mod-lt floor {m = 2} (omega arith))))
      (place-odd n q (floor / 2) left pos (subst (λ (m : ℕ). m * m * q + left ≡ 4 * (n * n)) e doubled.whole)))
      (λ h.
      let e : floor ≡ 2 * (floor / 2) = omega (arith, div-add-mod floor 2) in
      simp (ne_eqb (floor % 2) 1 (omega arith))
      (place-even n q (floor / 2) left pos (subst (λ (m : ℕ). m * m * q + left ≡ 4 * (n * n)) e doubled.whole)
      (subst (λ (m : ℕ). left < (2 * m + 1) * q) e doubled.last)))

module _ (n q floor left : ℕ) (ranges : QuotientRange n q) (doubled : DoubledOver n q floor left) where
  floor-is : floor_over n q ≡ floor / 2
  floor-is =
      let t : ℕ = floor / 2 in
      let low : 2 * t ≤ floor = mul-div-le floor 2 in
      let high : floor + 1 ≤ 2 * (t + 1) = omega (arith, lt-mul-div-succ floor {b = 2} (omega arith)) in
      offsets.floor-is n q t
      (omega (arith, doubled.whole, mul-le-mul_right q (mul-le-mul low low)))
      (omega (arith, doubled.whole, doubled.last, mul-le-mul_right q (mul-le-mul high high)))
      (omega (arith, start-most n q ranges floor (omega (arith, doubled.whole))))

  -- n over √q, rounded, from the doubled floor
  pub rounded-is : (mode : Mode) (negative : Bool) (r : ℕ) → r ≡ rounded_by mode negative (floor / 2) (place_of (eqb (floor % 2) 1) (not (eqb left 0)))
      → r ≡ rounded_over mode negative n q
  rounded-is mode negative r e =
      e ∙ sym (offsets.rounded-is mode negative n q (floor / 2) (eqb (floor % 2) 1) (not (eqb left 0)) floor-is (place_is n q floor left ranges.least doubled))

-- ---- a component and a radius

module _ (c : Component) (radius q : ℕ) (ranges : ComponentRange c.square radius q) where
  abbrev n : ℕ
  n = c.magnitude * radius

  pub squares-are : c.square * (radius * radius) ≡ n * n
  squares-are = rw c.squared (omega arith)

  pub offset-ranges : QuotientRange n q
  offset-ranges =
      record {
        product-most = omega (arith, mul-le-mul c.short ranges.radius-most);
        ratio =
            nlin (c.magnitude ∷ radius ∷ q ∷ [])
            (v 0 ⊗ v 0 ⊗ (v 1 ⊕ # length_most) ⊙ v 1 ⊑ # length_most ∷ # (length_most * length_most) ⊙ v 0 ⊗ v 0 ⊑ v 2 ∷ [])
            (v 0 ⊗ v 1 ⊗ (v 0 ⊗ v 1)) (# (length_most * length_most) ⊗ v 2) tt
            (omega (arith, ranges.radius-most, ranges.squared, c.squared));
        least = ranges.least;
        most = ranges.most;
      }

  -- an offset is not longer than the radius
  pub offset-short : (mode : Mode) (negative : Bool) (r : ℕ) → r ≡ rounded_over mode negative n q → r ≤ radius
  offset-short mode negative r e =
      rw e (offsets.rounded-most c.magnitude radius q ranges.least (omega (arith, ranges.squared, c.squared)) mode negative)

  module _ (scale : ℕ) (s : ScaleOf q radius scale) where
    abbrev start : ℕ
    start = c.magnitude * scale / 2 ^ 45

    -- the fixed shift does what the inverse's own does
    start_is : start ≡ n * s.low / 2 ^ (27 + s.half)
    start_is =
        let k : ℕ = 2 ^ (18 - s.half) in
        let sum : 45 ≡ 27 + s.half + (18 - s.half) = omega (arith, s.half-most) in
        let power : 2 ^ 45 ≡ 2 ^ (27 + s.half) * k = ap (λ (x : ℕ). 2 ^ x) sum ∙ pow-add 2 (27 + s.half) (18 - s.half) in
        let w : c.magnitude * (s.low * (radius * k)) ≡ n * s.low * k = omega arith in
        ap (λ (x : ℕ). c.magnitude * x / 2 ^ 45) s.is
        ∙ ap₂ ◌/◌ w power
        ∙ mul-div-mul_right (n * s.low) (2 ^ (27 + s.half)) (pow_pos (18 - s.half))

    pub started : Started start (c.square * (radius * radius)) q
    started =
        let t : ℕ = n * s.low / 2 ^ (27 + s.half) in
        let below : t * t * q ≤ 4 * (n * n) = start-below n q offset-ranges s.low (27 + s.half) s.inverse in
        rw (start_is, squares-are)
        (record {
          low = below;
          high = start-above n q offset-ranges s.low (27 + s.half) s.inverse;
          start-most = start-most n q offset-ranges t below;
          most = ranges.most;
        })

    pub start_fits : Fits w64 (c.magnitude * scale)
    start_fits = omega (arith, started.start-most, lt-mul-div-succ (c.magnitude * scale) {b = 2 ^ 45} (omega arith))
