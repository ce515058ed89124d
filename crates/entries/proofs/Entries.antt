-- The tests of a number and of the next tell whether it is M. Assumes nothing.
use mathlib.Core.Path.{◌≡◌, sym}
use mathlib.Core.List.{[], ◌∷◌}
use mathlib.Core.Bool.{Bool, false, not, ◌&&◌}
use Prim.Native.Nat.{ℕ, ◌+◌, ◌*◌, ◌-◌, ◌%◌, ◌^◌, ◌≤◌, ◌<◌}
use native.Mathlib.Numerals.{add-one}
use native.Mathlib.Omega.{arith}
use borrow.Author.Tests.{ne_eqb}
use lib.Dec.{ltb, leb, eqb}
use Rattle.kinds.specs.declared.Op.{Op}
use Rattle.kinds.specs.declared.Op.TheVariants.{Reciprocal, Root, InverseRoot}
use Rattle.numbers.proofs.Exponents.{power-of}
use Rattle.numbers.proofs.Greatest.{last-upto}
use Rattle.significand.specs.Width.{k64}
use Rattle.significand.specs.Steps.{multiplier_of}
use Rattle.significand.proofs.Multiplier.{root-upto, inverse-root-upto}
use Rattle.significand.proofs.Sizes.{multiplier64-most}

module _ (op : Op) (w r p : ℕ) (least : 2 ^ 15 ≤ r) (most : r ≤ 2 ^ 16) (parity : p ≤ 1) where
  -- a law for each operation
  pub reciprocal-at-most : op ≡ Reciprocal → leb w (r * 2 ^ 44 % 2 ^ 64) ≡ leb w (multiplier_of k64 op r p)
  unfolding multiplier_of
  reciprocal-at-most e = let small : r * 2 ^ 44 % 2 ^ 64 ≡ r * 2 ^ 44 = omega arith in rw (e, small)

  pub root-at-most : (u : ℕ) (b : Bool) → op ≡ Root → u ≡ 2 * w - 1 → b ≡ ltb (u * u * r) (2 ^ (138 + p)) → b ≡ leb w (multiplier_of k64 op r p)
  root-at-most u b e eu eb =
      rw (e, eb, eu, power-of (138 + p) (2 ∷ (136 + p) ∷ []) (omega arith)) (root-upto k64 r p (omega arith) parity least most w)

  pub inverse-root-at-most : (u : ℕ) (b : Bool) → op ≡ InverseRoot → u ≡ 2 * w - 1 → b ≡ ltb (u * u * 2 ^ (16 + p)) (r * 2 ^ 122)
      → b ≡ leb w (multiplier_of k64 op r p)
  inverse-root-at-most u b e eu eb =
      let four : r * 2 ^ 122 ≡ 4 * (r * 2 ^ 120) = omega arith in
      rw (e, eb, eu, four) (inverse-root-upto k64 r p (omega arith) parity least most w)

  -- M is at most M, and the next number is not; no number above 2^61 is M
  pub holds-is : (a b : Bool) → a ≡ leb w (multiplier_of k64 op r p) → b ≡ leb (w + 1) (multiplier_of k64 op r p)
      → a && not b ≡ eqb w (multiplier_of k64 op r p)
  holds-is a b ea eb = rw (ea, eb, add-one) (last-upto w (multiplier_of k64 op r p))

  pub large-is-none : 2 ^ 61 < w → false ≡ eqb w (multiplier_of k64 op r p)
  large-is-none h = sym (ne_eqb w (multiplier_of k64 op r p) (λ e. omega (arith, multiplier64-most op r p least most parity)))
