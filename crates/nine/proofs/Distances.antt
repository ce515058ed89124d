-- The squares of level distances, as the code works them out, are those from the centre to the heights' places. Assumes nothing.
use Prim.Native.Nat.{ℕ, ◌+◌, ◌-◌, ◌*◌, ◌≤◌}
use mathlib.Core.Path.{◌≡◌, refl, sym, ap, ap₂, ◌∙◌}
use mathlib.Core.Bool.{Bool, true, false, cond}
use mathlib.Core.List.{List}
use native.Mathlib.Nat.{mul-le-mul}
use native.Mathlib.Omega.{arith}
use lib.IntN.{ℤ, pos, nat_abs, ◌+ℤ◌, ◌-ℤ◌, pos-+ℤ-pos}
use Rattle.numbers.proofs.Differences.{diff-abs, diff-less, pos-less}
use Rattle.words.specs.Word.{word_at}
use Rattle.words.specs.Signed.{signed, with_sign}
use Rattle.words.specs.declared.Signed.{Signed}
use Rattle.cutter.specs.Limits.{step_most, radius_most}
use Rattle.cutter.specs.Map.{height_at}
use Rattle.cutter.specs.Centre.{Centre}
use Rattle.cutter.specs.Lift.{contact_at, three_at, nine_at}
use Rattle.raising.specs.Squares.{Small}
use Rattle.raising.specs.Biased.{contact_from, three_from}
use Rattle.nine.specs.Offset.{squares_of, nine_from, centre_from}

-- ---- the code's numbers

module _ (o : Signed) (step : ℕ) (h : o.magnitude ≤ radius_most) (k : step ≤ step_most) where
  far-most : o.magnitude + step ≤ 22500
  far-most = omega arith

  module _ (s : ℕ) (near-is : s ≡ o.magnitude - step + (step - o.magnitude)) where
    near-most : s ≤ 22500
    near-most = omega (arith, near-is)

    pub squares-back : o.negative ≡ true
        → record { before = s * s; own = o.magnitude * o.magnitude; behind = (o.magnitude + step) * (o.magnitude + step) }
        ≡ squares_of o step
    unfolding squares_of
    squares-back t = rw (t, near-is) refl

    pub squares-on : o.negative ≡ false
        → record { before = (o.magnitude + step) * (o.magnitude + step); own = o.magnitude * o.magnitude; behind = s * s }
        ≡ squares_of o step
    unfolding squares_of
    squares-on f = rw (f, near-is) refl

    pub small-back : Small (record { before = s * s; own = o.magnitude * o.magnitude; behind = (o.magnitude + step) * (o.magnitude + step) })
    small-back =
        record {
          before = omega (arith, mul-le-mul near-most near-most);
          own = omega (arith, mul-le-mul h h);
          behind = omega (arith, mul-le-mul far-most far-most);
        }

    pub small-on : Small (record { before = (o.magnitude + step) * (o.magnitude + step); own = o.magnitude * o.magnitude; behind = s * s })
    small-on = record { before = small-back.behind; own = small-back.own; behind = small-back.before }

-- ---- from the centre

-- an offset from one place, seen from another
level : (n : Bool) (m a b : ℕ)
    → nat_abs (pos a +ℤ with_sign n m -ℤ pos b) ≡ cond n (a - (m + b) + (m + b - a)) (a + m - b + (b - (a + m)))
unfolding with_sign
level false m a b = ap nat_abs (ap (λ (z : ℤ). z -ℤ pos b) (pos-+ℤ-pos a m) ∙ pos-less (a + m) b) ∙ diff-abs (a + m) b
level true m a b = ap nat_abs (ap (λ (z : ℤ). z -ℤ pos b) (pos-less a m) ∙ diff-less a m b) ∙ diff-abs a (m + b)

-- its square, where the places are a step apart or the same
module _ (m step a b : ℕ) where
  abbrev square_at : Bool → ℕ
  square_at n = nat_abs (pos a +ℤ with_sign n m -ℤ pos b) * nat_abs (pos a +ℤ with_sign n m -ℤ pos b)

  abbrev near : ℕ
  near = m - step + (step - m)

  square-back : a ≡ b + step → (n : Bool) → square_at n ≡ cond n (near * near) ((m + step) * (m + step))
  square-back e true = ap (λ (x : ℕ). x * x) (level true m a b ∙ omega arith)
  square-back e false = ap (λ (x : ℕ). x * x) (level false m a b ∙ omega arith)

  square-here : a ≡ b → (n : Bool) → square_at n ≡ m * m
  square-here e true = ap (λ (x : ℕ). x * x) (level true m a b ∙ omega arith)
  square-here e false = ap (λ (x : ℕ). x * x) (level false m a b ∙ omega arith)

  square-on : b ≡ a + step → (n : Bool) → square_at n ≡ cond n ((m + step) * (m + step)) (near * near)
  square-on e true = ap (λ (x : ℕ). x * x) (level true m a b ∙ omega arith)
  square-on e false = ap (λ (x : ℕ). x * x) (level false m a b ∙ omega arith)

module _ (o : Signed) (c step : ℕ) (h : 1 ≤ c) where
  abbrev square_to : ℕ → ℕ
  square_to b = square_at o.magnitude step (c * step) (b * step) o.negative

  before-is : square_to (c - 1) ≡ (squares_of o step).before
  unfolding squares_of
  before-is =
      let e : c ≡ c - 1 + 1 = omega arith in
      square-back o.magnitude step (c * step) ((c - 1) * step) (omega (arith, ap (λ (x : ℕ). x * step) e)) o.negative

  own_is : square_to c ≡ (squares_of o step).own
  unfolding squares_of
  own_is = square-here o.magnitude step (c * step) (c * step) refl o.negative

  behind-is : square_to (c + 1) ≡ (squares_of o step).behind
  unfolding squares_of
  behind-is = square-on o.magnitude step (c * step) ((c + 1) * step) (omega arith) o.negative

-- ---- the nine heights

module _ (m : List ℕ) (w step : ℕ) (c q : ℕ) (x y : Signed) (left : 1 ≤ c) (above : 1 ≤ q) where
  abbrev centre : Centre
  centre = centre_from step c q x y

  -- one, at column a and row b, which is place i
  contact-is : (a b i u v : ℕ) → i ≡ b * w + a → square_to x c step left a ≡ u → square_to y q step above b ≡ v
      → contact_at m w step centre a b ≡ contact_from m i (u + v)
  unfolding contact_at height_at
  contact-is a b i u v place eu ev =
      ap₂ (λ (j s : ℕ). record { height = signed (word_at m (4 * j)); apart = s }) (sym place) (ap₂ ◌+◌ eu ev)

  -- three of a row
  three-is : (b v : ℕ) → square_to y q step above b ≡ v → three_at m w step centre c b ≡ three_from m (b * w + c - 1) (squares_of x step) v
  unfolding three_at
  three-is b v ev =
      let s = squares_of x step in
      let p = contact-is (c - 1) b (b * w + c - 1) s.before v (omega arith) (before-is x c step left) ev in
      let o = contact-is c b (b * w + c - 1 + 1) s.own v (omega arith) (own_is x c step left) ev in
      let n = contact-is (c + 1) b (b * w + c - 1 + 2) s.behind v (omega arith) (behind-is x c step left) ev in
      cc (p, o, n)

  -- all
  pub nine-is : nine_at m w step centre c q ≡ nine_from m w c q (squares_of x step) (squares_of y step)
  unfolding nine_at
  nine-is =
      cc (
        three-is (q - 1) (squares_of y step).before (before-is y q step above),
        three-is q (squares_of y step).own (own_is y q step above),
        three-is (q + 1) (squares_of y step).behind (behind-is y q step above),
      )
