-- The round trip: a trailer of any kind, wherever it stands, is known by its letters and read back as it was put. Assumes nothing.
use mathlib.Core.Path.{◌≡◌, ap, ◌∙◌}
use mathlib.Core.Bool.{Bool, true, false}
use mathlib.Core.List.{List, ◌++◌}
use Prim.Native.Nat.{ℕ, ◌+◌, ◌-◌, ◌≤◌, ◌<◌}
use native.Mathlib.Omega.{arith}
use borrow.Author.Tests.{le-leb}
use lib.ListN.{length, length-append}
use Rattle.words.specs.Word.{half_at, word_at, half_bytes, word_bytes, reads_at}
use Rattle.words.specs.Splice.{splice}
use Rattle.words.proofs.Standing.{Stands, stands-end, stands-splice, stands-left, stands-right, stands-half, stands_word, stands-reads}
use Rattle.trailer.specs.Kinds.{letters_of, length_of, is_wide, is_rounded, radius_size}
use Rattle.trailer.specs.Bytes.{radius_at, rounding_at, fields_at, last_fields, ends_in, radius_bytes, rounding_bytes, front_bytes, trailer_bytes, radius_end, rounding_end, InRange}
use Rattle.trailer.specs.declared.Kind.{Kind}
use Rattle.trailer.specs.declared.Fields.{Fields}
use Rattle.trailer.proofs.Layouts.{length_front, length-letters, length-radius, length-trailer}

stands-radius : (wide : Bool) (m : List ℕ) (at x : ℕ) → Stands m at (radius_bytes wide x) → x < radius_end wide → radius_at wide m at ≡ x
stands-radius true m at x s h = stands_word m at x s h
stands-radius false m at x s h = stands-half m at x s h

stands-rounding : (rounded : Bool) (m : List ℕ) (at x : ℕ) → Stands m at (rounding_bytes rounded x) → x < rounding_end rounded
    → rounding_at rounded m at ≡ x
stands-rounding true m at x s h = stands-half m at x s h
stands-rounding false m at x s h = omega arith

-- the letters, wherever a trailer stands
pub letters-stand : (k : Kind) (f : Fields) (m : List ℕ) (at : ℕ) → Stands m at (trailer_bytes k f) → reads_at m at (letters_of k) ≡ true
unfolding trailer_bytes front_bytes
letters-stand k f m at s =
    let w : List ℕ = word_bytes f.distance in
    let x : List ℕ = half_bytes f.width in
    let y : List ℕ = half_bytes f.depth in
    let z : List ℕ = half_bytes f.step in
    let r : List ℕ = radius_bytes (is_wide k) f.radius in
    let t : List ℕ = rounding_bytes (is_rounded k) f.rounding in
    let n : List ℕ = letters_of k in
    stands-reads m at n (length-letters k)
    (stands-left m at n w
    (stands-left m at (n ++ w) x
    (stands-left m at (n ++ w ++ x) y
    (stands-left m at (n ++ w ++ x ++ y) z
    (stands-left m at (n ++ w ++ x ++ y ++ z) r
    (stands-left m at (n ++ w ++ x ++ y ++ z ++ r) t s))))))

-- the fields, wherever a trailer of a kind stands
pub fields-stand : (k : Kind) (f : Fields) (m : List ℕ) (at : ℕ) → InRange k f → Stands m at (trailer_bytes k f) → fields_at k m at ≡ f
unfolding fields_at trailer_bytes front_bytes word_bytes half_bytes
fields-stand k f m at g s =
    let n : List ℕ = letters_of k in
    let w : List ℕ = word_bytes f.distance in
    let x : List ℕ = half_bytes f.width in
    let y : List ℕ = half_bytes f.depth in
    let z : List ℕ = half_bytes f.step in
    let r : List ℕ = radius_bytes (is_wide k) f.radius in
    let t : List ℕ = rounding_bytes (is_rounded k) f.rounding in
    let nn : length n ≡ 4 = length-letters k in
    let nr : length r ≡ radius_size (is_wide k) = length-radius (is_wide k) f.radius in
    let front : length (n ++ w ++ x ++ y ++ z) ≡ 14 = length_front n f (length-letters k) in
    let s₆ : Stands m at (n ++ w ++ x ++ y ++ z ++ r) = stands-left m at (n ++ w ++ x ++ y ++ z ++ r) t s in
    let s₅ : Stands m at (n ++ w ++ x ++ y ++ z) = stands-left m at (n ++ w ++ x ++ y ++ z) r s₆ in
    let s₄ : Stands m at (n ++ w ++ x ++ y) = stands-left m at (n ++ w ++ x ++ y) z s₅ in
    let s₃ : Stands m at (n ++ w ++ x) = stands-left m at (n ++ w ++ x) y s₄ in
    let s₂ : Stands m at (n ++ w) = stands-left m at (n ++ w) x s₃ in
    let d : word_at m (at + 4) ≡ f.distance =
    stands_word m (at + 4) f.distance (stands-right m at 4 n w (length-letters k) s₂) g.distance in
    let e : half_at m (at + 8) ≡ f.width =
    stands-half m (at + 8) f.width (stands-right m at 8 (n ++ w) x (simp length-append (omega arith)) s₃) g.width in
    let h : half_at m (at + 10) ≡ f.depth =
    stands-half m (at + 10) f.depth (stands-right m at 10 (n ++ w ++ x) y (simp length-append (omega arith)) s₄) g.depth in
    let i : half_at m (at + 12) ≡ f.step =
    stands-half m (at + 12) f.step (stands-right m at 12 (n ++ w ++ x ++ y) z (simp length-append (omega arith)) s₅) g.step in
    let j : radius_at (is_wide k) m (at + 14) ≡ f.radius =
    stands-radius (is_wide k) m (at + 14) f.radius (stands-right m at 14 (n ++ w ++ x ++ y ++ z) r front s₆) g.radius in
    let o : rounding_at (is_rounded k) m (at + (14 + radius_size (is_wide k))) ≡ f.rounding =
    stands-rounding (is_rounded k) m (at + (14 + radius_size (is_wide k))) f.rounding (stands-right m at (14 + radius_size (is_wide k)) (n ++ w ++ x ++ y ++ z ++ r) t (simp length-append (omega arith)) s) g.rounding in
    let q : fields_at k m at ≡ record { distance = f.distance; width = f.width; depth = f.depth; step = f.step; radius = f.radius; rounding = f.rounding } = cc in
    q

-- the round trip: what is put is read back, over the bytes from `at` on or at their end
pub round_trip : (k : Kind) (f : Fields) (at : ℕ) (l : List ℕ) → InRange k f → at ≤ length l
    → fields_at k (splice at (trailer_bytes k f) l) at ≡ f
round_trip k f at l g h = fields-stand k f (splice at (trailer_bytes k f) l) at g (stands-splice at (trailer_bytes k f) l h)

pub fields-last : (k : Kind) (f : Fields) (l : List ℕ) → InRange k f → fields_at k (l ++ trailer_bytes k f) (length l) ≡ f
fields-last k f l g = fields-stand k f (l ++ trailer_bytes k f) (length l) g (stands-end l (trailer_bytes k f))

-- a trailer behind a list is the one that the bytes end in
module _ (k : Kind) (f : Fields) (l : List ℕ) where
  trailer-place : length (l ++ trailer_bytes k f) - length_of k ≡ length l
  trailer-place =
      let n : length (l ++ trailer_bytes k f) ≡ length l + length_of k = simp (length-append, length-trailer) in
      omega arith

  pub ends-own : ends_in k (l ++ trailer_bytes k f) ≡ true
  unfolding ends_in
  ends-own =
      let n : length (l ++ trailer_bytes k f) ≡ length l + length_of k = simp (length-append, length-trailer) in
      simp (le-leb (length_of k) (length (l ++ trailer_bytes k f)) (omega arith))
      (ap (λ (x : ℕ). reads_at (l ++ trailer_bytes k f) x (letters_of k)) trailer-place
      ∙ letters-stand k f (l ++ trailer_bytes k f) (length l) (stands-end l (trailer_bytes k f)))

  pub last-own : InRange k f → last_fields k (l ++ trailer_bytes k f) ≡ f
  unfolding last_fields
  last-own g = ap (fields_at k (l ++ trailer_bytes k f)) trailer-place ∙ fields-last k f l g
