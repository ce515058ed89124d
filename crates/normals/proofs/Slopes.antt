-- Heights and their differences, as the code has them, the places around an inner point, and the normal there. Assumes nothing.
use mathlib.Core.Path.{◌≡◌, sym, ap, ap₂, subst, ◌∙◌}
use mathlib.Core.List.{List}
use Prim.Native.Nat.{ℕ, ◌+◌, ◌-◌, ◌*◌, ◌%◌, ◌≤◌, ◌<◌}
use native.Mathlib.Omega.{arith}
use lib.Dec.{lit<}
use mir.Facts.{to_z-of_z}
use mir.Val.{SFits, of_z, to_z}
use mir.Syntax.{w32}
use lib.IntN.{ℤ, pos, negsuc, nat_abs, sub_ℕ, ◌-ℤ◌}
use Rattle.words.specs.Word.{word_at}
use Rattle.words.specs.Signed.{signed}
use Rattle.words.specs.Parts.{parts_of}
use Rattle.words.specs.declared.Signed.{Signed}
use Rattle.words.proofs.Differences.{diff-sub, diff-eq, diff-abs, magnitude-is, within-biased, signed-biased}
use Rattle.cutter.specs.Limits.{height_most, difference_most}
use Rattle.cutter.specs.Map.{Inner, dx_at, dy_at}
use Rattle.cutter.specs.Accepted.{Heights}
use Rattle.cutter.proofs.Places.{dx-is, dy-is}
use Rattle.normals.specs.Normal.{NormalOf}

-- a difference of heights is a number of 32 bits
short-fits : (z : ℤ) → nat_abs z ≤ difference_most → SFits w32 z
short-fits (pos n) h = record { sfits = omega arith }
short-fits (negsuc n) h = record { sfits = omega arith }

-- the numbers of two heights' words, and the one less the other
module _ (m : List ℕ) (i j count u v : ℕ) (hs : Heights m count) (hi : i < count) (hj : j < count) (hu : u < 4294967296) (hv : v < 4294967296)
    (eu : u ≡ word_at m (4 * i)) (ev : v ≡ word_at m (4 * j)) (x y : ℤ) (ex : x ≡ signed u) (ey : y ≡ signed v) where
  abbrev height : ℕ → ℤ
  height k = signed (word_at m (4 * k))

  first-is : x ≡ height i
  first-is = ex ∙ ap signed eu

  second_is : y ≡ height j
  second_is = ey ∙ ap signed ev

  less-short : nat_abs (height i -ℤ height j) ≤ difference_most
  less-short =
      let a : ℕ = (u + height_most) % 4294967296 in
      let b : ℕ = (v + height_most) % 4294967296 in
      let su : nat_abs (signed u) ≤ height_most = rw eu (hs.small i hi) in
      let sv : nat_abs (signed v) ≤ height_most = rw ev (hs.small j hj) in
      let wa : a ≤ difference_most = within-biased height_most u (lit< tt) hu su in
      let wb : b ≤ difference_most = within-biased height_most v (lit< tt) hv sv in
      let ea : sub_ℕ a height_most ≡ height i = sym (signed-biased height_most u (lit< tt) hu wa) ∙ ap signed eu in
      let eb : sub_ℕ b height_most ≡ height j = sym (signed-biased height_most v (lit< tt) hv wb) ∙ ap signed ev in
      let e : sub_ℕ a b ≡ height i -ℤ height j =
      diff-eq a b (a + height_most) (height_most + b) (omega arith) ∙ sym (diff-sub a height_most b height_most) ∙ ap₂ ◌-ℤ◌ ea eb in
      omega (arith, ap nat_abs e, diff-abs a b)

  -- bits are read back as the numbers that they are of
  read : (k : ℕ) → k < count → to_z w32 (of_z w32 (height k)) ≡ height k
  read k h = to_z-of_z (short-fits (height k) (omega (arith, hs.small k h)))

  less-read : to_z w32 (of_z w32 x) -ℤ to_z w32 (of_z w32 y) ≡ height i -ℤ height j
  less-read =
      ap₂ ◌-ℤ◌ (ap (λ (z : ℤ). to_z w32 (of_z w32 z)) first-is ∙ read i hi) (ap (λ (z : ℤ). to_z w32 (of_z w32 z)) second_is ∙ read j hj)

  pub slope-fits : SFits w32 (to_z w32 (of_z w32 x) -ℤ to_z w32 (of_z w32 y))
  slope-fits = subst (SFits w32) (sym less-read) (short-fits (height i -ℤ height j) less-short)

  module _ (s : Signed) (e : s ≡ parts_of (to_z w32 (of_z w32 (to_z w32 (of_z w32 x) -ℤ to_z w32 (of_z w32 y))))) where
    pub slope-is : s ≡ parts_of (height i -ℤ height j)
    slope-is = e ∙ ap parts_of (to_z-of_z slope-fits ∙ less-read)

    pub slope-most : s.magnitude ≤ difference_most
    slope-most = omega (arith, magnitude-is s (height i -ℤ height j) slope-is, less-short)

-- the two slopes are the normal's components
pub normal-is : (m : List ℕ) (w d c q p l : ℕ) (x y : Signed) → Inner w d c q → p ≡ q * w + c
    → x ≡ parts_of (signed (word_at m (4 * (p - 1))) -ℤ signed (word_at m (4 * (p + 1))))
    → y ≡ parts_of (signed (word_at m (4 * (p - w))) -ℤ signed (word_at m (4 * (p + w))))
    → NormalOf (dx_at m w c q) (dy_at m w c q) (record { x = x; y = y; squared = l })
normal-is m w d c q p l x y h e ex ey =
    record {
      x = rw e at ex ∙ ap parts_of (sym (dx-is m w d c q h));
      y = rw e at ey ∙ ap parts_of (sym (dy-is m w d c q h));
    }
