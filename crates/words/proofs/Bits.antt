-- A word as a signed integer of the language, which holds it by its bits, and such an integer's sign and magnitude. Assumes nothing.
use mathlib.Core.Path.{◌≡◌, refl, sym, ap, ◌∙◌}
use Prim.Native.Nat.{ℕ, suc, ◌-◌, ◌≤◌, ◌<◌}
use native.Mathlib.Omega.{arith}
use borrow.Author.Tests.{lt-ltb, le-ltb}
use lib.Signed.{lt_z, mag}
use lib.IntN.{ℤ, pos, negsuc, nat_abs}
use mir.Syntax.{w32}
use mir.Val.{to_z, of_z}
use mir.ValLaws.{to_z_pos, to_z-neg, of_z-to_z}
use Rattle.words.specs.Signed.{signed}
use Rattle.words.specs.Parts.{parts_of}
use Rattle.words.specs.declared.Signed.{Signed}
use Rattle.words.proofs.Differences.{either, signed-small, magnitude-is}

-- from 2^31 on a word's number is −1 less what it lacks to 2^32 − 1
signed_high : (u : ℕ) → u < 4294967296 → 2147483648 ≤ u → signed u ≡ negsuc (4294967295 - u)
unfolding signed
signed_high u h k =
    let e : 4294967296 - suc u ≡ 4294967295 - u = omega arith in
    simp (le-ltb u 2147483648 k, lt-ltb u 4294967296 h, e)

pub cast_signed-is : (u : ℕ) → u < 4294967296 → to_z w32 u ≡ signed u
cast_signed-is u h =
    either u 2147483648
    (λ k.
    let e : u ≡ 4294967296 - suc (4294967295 - u) = omega arith in
    ap (to_z w32) e ∙ to_z-neg w32 (4294967295 - u) (omega arith) ∙ sym (signed_high u h k))
    (λ k. to_z_pos w32 u k ∙ sym (signed-small u k))

-- so it comes back from those bits
pub cast-kept : (u : ℕ) (z : ℤ) → u < 4294967296 → z ≡ to_z w32 u → to_z w32 (of_z w32 z) ≡ signed u
cast-kept u z h e = rw (e, of_z-to_z w32 u (record { fits = h })) (cast_signed-is u h)

pub signed_back : (u : ℕ) (z : ℤ) → u < 4294967296 → z ≡ signed u → to_z w32 (of_z w32 z) ≡ signed u
signed_back u z h e = cast-kept u z h (e ∙ sym (cast_signed-is u h))

pub parts-are : (x : ℤ) → record { negative = lt_z x (pos 0); magnitude = nat_abs x } ≡ parts_of x
unfolding parts_of
parts-are (pos n) = let e = le-ltb n 0 (omega arith) in cc
parts-are (negsuc n) = refl

pub magnitude-most : (s : Signed) (z : ℤ) → s ≡ parts_of z → mag z < 2147483648 → s.magnitude ≤ 2147483648
unfolding parts_of
magnitude-most s (pos n) e h = omega (arith, magnitude-is s (pos n) e)
magnitude-most s (negsuc n) e h = omega (arith, magnitude-is s (negsuc n) e)
