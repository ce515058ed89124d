-- How near the distances are to what is reached at k = 7 and t = 3: 4 would be too small for the reciprocal and the root, and 3 for the
-- inverse root, by a significand whose answer is further away. Assumes nothing.
use mathlib.Core.Path.{◌≡◌, refl, sym, subst}
use mathlib.Core.Bool.{true, false}
use Prim.Native.Nat.{ℕ}
use native.Mathlib.Omega.{arith}
use Rattle.kinds.specs.declared.Op.{Op}
use Rattle.kinds.specs.declared.Op.TheVariants.{Reciprocal, Root, InverseRoot}
use Rattle.significand.specs.Width.{k32, t32}
use Rattle.significand.specs.Steps.{factor_of, sign_of, reduced_of, sum_of, raw_of}
use Rattle.significand.specs.Distance.{Near}
use Rattle.significand.proofs.Numerals.{reciprocal-multiplier, root-entry, inverse-root-entry, answer-is}

-- the answer, worked out
at-answer : (op : Op) (y p d g : ℕ) → g ≡ raw_of k32 t32 op y p → Near op k32 t32 y p d (raw_of k32 t32 op y p) → Near op k32 t32 y p d g
at-answer op y p d g e near = subst (Near op k32 t32 y p d) (sym e) near

pub reciprocal-beyond-four : Near Reciprocal k32 t32 8519172 0 4 (raw_of k32 t32 Reciprocal 8519172 0) → ⊥
unfolding factor_of sign_of reduced_of sum_of
reciprocal-beyond-four near =
    let e : 264321436 ≡ raw_of k32 t32 Reciprocal 8519172 0 =
    answer-is Reciprocal 8519172 0 254 2048255 266338304 266402708 264321436 true refl refl refl refl (sym (reciprocal-multiplier 254 0)) refl in
    omega (arith, (at-answer Reciprocal 8519172 0 4 264321436 e near).over)

pub root-beyond-four : Near Root k32 t32 16415029 1 4 (raw_of k32 t32 Root 16415029 1) → ⊥
unfolding factor_of sign_of reduced_of sum_of
root-beyond-four near =
    let e : 531044298 ≡ raw_of k32 t32 Root 16415029 1 =
    answer-is Root 16415029 1 131 360643 530687931 268615716 531044298 true refl refl refl refl (root-entry 1 250 530687931 tt) refl in
    omega (arith, (at-answer Root 16415029 1 4 531044298 e near).over)

pub inverse-root-beyond-three : Near InverseRoot k32 t32 15794662 0 3 (raw_of k32 t32 InverseRoot 15794662 0) → ⊥
unfolding factor_of sign_of reduced_of sum_of
inverse-root-beyond-three near =
    let e : 195627386 ≡ raw_of k32 t32 InverseRoot 15794662 0 =
    answer-is InverseRoot 15794662 0 135 1900534 194933634 269390796 195627386 false refl refl refl refl (inverse-root-entry 0 241 194933634 tt) refl in
    omega (arith, (at-answer InverseRoot 15794662 0 3 195627386 e near).over)
