-- Places of a map: every inner point is the point of one record, and every record's point an inner one; the places around an inner point,
-- and the differences there. Assumes nothing.
use mathlib.Core.Path.{◌≡◌, ap, ap₂, subst₂, ◌∙◌}
use mathlib.Core.List.{List}
use Prim.Native.Nat.{ℕ, suc, ◌+◌, ◌-◌, ◌*◌, ◌/◌, ◌%◌, ◌≤◌, ◌<◌}
use native.Mathlib.Nat.{mod-lt, div-lt_iff_lt-mul, add-mul-div_right, add-mul-mod_self_right, div-eq_of_lt, mod-eq_of_lt, mul_comm, suc-mul, mul-le-mul_right}
use native.Mathlib.Omega.{arith}
use lib.IntN.{neg_ℤ, ◌-ℤ◌}
use Rattle.words.specs.Word.{word_at}
use Rattle.words.specs.Signed.{signed}
use Rattle.words.proofs.Differences.{neg-sub}
use Rattle.cutter.specs.Map.{Inner, width_of, depth_of, height_at, dx_at, dy_at}
use Rattle.cutter.specs.Centre.{Point, point_at}
use Rattle.cutter.specs.List.{count_of, column_of, row_of, inner_point}

module _ (w d : ℕ) (wide : 3 ≤ w) where
  -- the place of record n
  pub inner-at : (n : ℕ) → n < count_of w d → Inner w d (column_of w n) (row_of w n)
  inner-at n h =
      let k : 0 < w - 2 = omega arith in
      let c : n % (w - 2) < w - 2 = mod-lt n k in
      let q : n / (w - 2) < d - 2 = (div-lt_iff_lt-mul k).1 (omega arith) in
      record { left = omega arith; right = omega arith; above = omega arith; below = omega arith }

  module _ (c q : ℕ) (i : Inner w d c q) where
    -- the record of the inner point at column c and row q
    abbrev pub index_at : ℕ
    index_at = (c - 1) + (q - 1) * (w - 2)

    column-short : c - 1 < w - 2
    column-short = omega arith

    pub index_below : index_at < count_of w d
    index_below =
        let r : (q - 1) + 1 ≤ d - 2 = omega arith in
        omega (arith, column-short, mul-le-mul_right (w - 2) r)

    pub column-is : column_of w index_at ≡ c
    column-is = rw (add-mul-mod_self_right, mod-eq_of_lt column-short) (omega arith)

    pub row_is : row_of w index_at ≡ q
    row_is = rw (add-mul-div_right (c - 1) (q - 1) {z = w - 2} (omega arith), div-eq_of_lt column-short) (omega arith)

-- what holds at the point of each record holds at each inner point
pub at_every : (m : List ℕ) (P : Point → Type 0) → 3 ≤ width_of m
    → ((n : ℕ) → n < count_of (width_of m) (depth_of m) → P (inner_point m n))
    → (c q : ℕ) → Inner (width_of m) (depth_of m) c q → P (point_at m (width_of m) c q)
at_every m P wide f c q i =
    let w = width_of m in
    let d = depth_of m in
    subst₂ (λ (x y : ℕ). P (point_at m w x y)) (column-is w d wide c q i) (row_is w d wide c q i) (f (index_at w d wide c q i) (index_below w d wide c q i))

-- ---- around an inner point

-- a column and a row of a map are the place of one of its heights
pub inside : (w d c q : ℕ) → c < w → q < d → q * w + c < w * d
inside w d c q hc hq = omega (arith, mul-le-mul_right w hq)

module _ (w d c q : ℕ) where
  pub around : Inner w d c q → (w ≤ q * w + c) × (q * w + c + w < w * d)
  around h = (
    omega (arith, mul-le-mul_right w h.above),
    omega (arith, mul-le-mul_right w h.below, h.right, suc-mul (suc q) w, suc-mul q w, mul_comm w d),
  )

  pub place_in : Inner w d c q → q * w + c < w * d
  place_in h = omega (arith, around h)

  pub above_in : Inner w d c q → q * w + c - w < w * d
  above_in h = omega (arith, around h)

  pub below_in : Inner w d c q → q * w + c + w < w * d
  below_in h = (around h).1

-- ---- the differences, by place

module _ (m : List ℕ) (w d c q : ℕ) (h : Inner w d c q) where
  pub dx-is : neg_ℤ (dx_at m w c q) ≡ signed (word_at m (4 * (q * w + c - 1))) -ℤ signed (word_at m (4 * (q * w + c + 1)))
  unfolding dx_at height_at
  dx-is =
      let e : q * w + (c - 1) ≡ q * w + c - 1 = omega (arith, h.left) in
      let f : q * w + (c + 1) ≡ q * w + c + 1 = omega arith in
      neg-sub (signed (word_at m (4 * (q * w + (c + 1))))) (signed (word_at m (4 * (q * w + (c - 1)))))
      ∙ ap₂ (λ (x y : ℕ). signed (word_at m (4 * x)) -ℤ signed (word_at m (4 * y))) e f

  pub dy-is : neg_ℤ (dy_at m w c q) ≡ signed (word_at m (4 * (q * w + c - w))) -ℤ signed (word_at m (4 * (q * w + c + w)))
  unfolding dy_at height_at
  dy-is =
      let p : q ≡ suc (q - 1) = omega (arith, h.above) in
      let r : q * w ≡ suc (q - 1) * w = ap (λ (x : ℕ). x * w) p in
      let e : (q - 1) * w + c ≡ q * w + c - w = omega (arith, suc-mul (q - 1) w) in
      let f : (q + 1) * w + c ≡ q * w + c + w = omega arith in
      neg-sub (signed (word_at m (4 * ((q + 1) * w + c)))) (signed (word_at m (4 * ((q - 1) * w + c))))
      ∙ ap₂ (λ (x y : ℕ). signed (word_at m (4 * x)) -ℤ signed (word_at m (4 * y))) e f
