-- From the floor of a significand to the pattern below the exact result of its operand. Assumes nothing.
use mathlib.Core.Path.{◌≡◌, ap, ◌∙◌}
use mathlib.Core.Bool.{Bool}
use mathlib.Core.Logic.{by_cases}
use Prim.Native.Nat.{ℕ, suc, ◌+◌, ◌*◌, ◌-◌, ◌^◌, ◌≤◌, ◌<◌}
use native.Mathlib.Nat.{mul-pos}
use native.Mathlib.Decide.{dec_lt}
use native.Mathlib.Omega.{arith}
use lib.Pow.{pow_pos}
use Rattle.kinds.specs.declared.Op.{Op}
use Rattle.ieee.specs.Format.{Format, unit_of, magnitude_of}
use Rattle.ieee.specs.Floor.{target_of, Floored}
use Rattle.ieee.proofs.Scales.{guarded}
use Rattle.ieee.proofs.Targets.{quotient-small}
use Rattle.pattern.specs.Format.{FormatLaws}
use Rattle.pattern.specs.Operand.{Scaling}
use Rattle.pattern.specs.declared.operand.Scaled.{Scaled}
use Rattle.pattern.proofs.Numbers.{exponents-double}
use Rattle.neighbour.specs.Neighbour.{neighbour_of, BelowResult}
use Rattle.neighbour.specs.Scales.{ScalesOf}
use Rattle.neighbour.specs.declared.Neighbour.{Neighbour}
use Rattle.neighbour.specs.declared.scales.Scales.{Scales}
use Rattle.neighbour.proofs.Below.{neighbour-below}

module _ (f : Format) (m p : ℕ) (laws : FormatLaws f m p) (t : ℕ) (s : Scaled) (h : Scaling f (magnitude_of f t) s) where
  -- a scaled magnitude is not zero
  scaled-pos : 0 < magnitude_of f t
  scaled-pos =
      by_cases (dec_lt 0 (magnitude_of f t)) (λ l. l)
      (λ l.
      let none : magnitude_of f t ≡ 0 = omega arith in
      absurd (omega (
        arith,
        h.is,
        ap (λ (n : ℕ). n * 2 ^ f.fraction_bits) none,
        mul-pos {m = s.significand} {n = 2 ^ s.exponent}
            (omega (arith, h.least, pow_pos f.fraction_bits)) (pow_pos s.exponent),
      )))

  -- an operand's exponent is among those that have a scale
  exponent-most : s.exponent ≤ 2 * unit_of f + 1 - f.fraction_bits
  exponent-most = omega (arith, h.small, laws.wide, exponents-double f m p laws)

  module _ (op : Op) (k : Scales) (sc : ScalesOf f op s.exponent k) where
    module _ (q : ℕ) (more : Bool) (floor : Floored op s.significand (target_of f.fraction_bits op s.significand k.parity) q more) where
      -- a floor has a significand's bits and a guard bit, or is the power of two above them
      pub floor-most : q ≤ 2 ^ suc (suc f.fraction_bits)
      floor-most =
          quotient-small f.fraction_bits s.significand k.parity q sc.one_bit h.least
          h.below op floor.low

      -- and at its scale it gives the pattern below the exact result
      pub result-below : (n : Neighbour) → n ≡ neighbour_of f q more k.scale → BelowResult f op t n
      result-below n e =
          neighbour-below f op _ _ _ _ n (omega (arith, laws.exponents)) scaled-pos
          (guarded f _ s.significand s.exponent laws.wide h.is h.least
          h.below exponent-most op q more (rw sc.parity-is at floor))
          (e ∙ ap (neighbour_of f q more) sc.scale-is)
