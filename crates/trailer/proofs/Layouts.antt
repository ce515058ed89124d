-- How long a trailer of each kind is, and its parts. Assumes nothing.
use mathlib.Core.Path.{◌≡◌, refl}
use mathlib.Core.Bool.{Bool, true, false}
use mathlib.Core.List.{List}
use Prim.Native.Nat.{ℕ, ◌+◌, ◌≤◌, ◌<◌}
use native.Mathlib.Omega.{arith}
use lib.ListN.{length, length-append}
use Rattle.words.specs.Word.{half_bytes, word_bytes}
use Rattle.trailer.specs.Kinds.{letters_of, length_of, is_wide, is_rounded, radius_size, rounding_size}
use Rattle.trailer.specs.Bytes.{radius_bytes, rounding_bytes, front_bytes, trailer_bytes, radius_end}
use Rattle.trailer.specs.declared.Kind.{Kind}
use Rattle.trailer.specs.declared.Kind.TheVariants.{Plt1, Cut1, Cut2}
use Rattle.trailer.specs.declared.Fields.{Fields}

pub length_front : (letters : List ℕ) (f : Fields) → length letters ≡ 4 → length (front_bytes letters f) ≡ 14
unfolding front_bytes word_bytes half_bytes
length_front letters f e = simp length-append (omega arith)

-- a kind's length is that of its fields
pub length-is : (k : Kind) → length_of k ≡ 14 + (radius_size (is_wide k) + rounding_size (is_rounded k))
length-is Plt1 = refl
length-is Cut1 = refl
length-is Cut2 = refl

pub length-bounds : (k : Kind) → (16 ≤ length_of k) × (length_of k ≤ 20)
length-bounds Plt1 = omega arith
length-bounds Cut1 = omega arith
length-bounds Cut2 = omega arith

pub length-letters : (k : Kind) → length (letters_of k) ≡ 4
length-letters Plt1 = refl
length-letters Cut1 = refl
length-letters Cut2 = refl

pub length-radius : (wide : Bool) (x : ℕ) → length (radius_bytes wide x) ≡ radius_size wide
unfolding word_bytes half_bytes
length-radius true x = refl
length-radius false x = refl

pub length-rounding : (rounded : Bool) (x : ℕ) → length (rounding_bytes rounded x) ≡ rounding_size rounded
unfolding half_bytes
length-rounding true x = refl
length-rounding false x = refl

-- a number of 16 bits is a radius in every kind
pub radius-held : (wide : Bool) (x : ℕ) → x < 65536 → x < radius_end wide
radius-held true x h = omega arith
radius-held false x h = h

pub length-trailer : (k : Kind) (f : Fields) → length (trailer_bytes k f) ≡ length_of k
unfolding trailer_bytes
length-trailer k f =
    simp length-append
    (omega (arith, length_front (letters_of k) f (length-letters k), length-radius (is_wide k) f.radius, length-rounding (is_rounded k) f.rounding, length-is k))
