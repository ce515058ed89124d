-- The exact result and its two ways to the answer. Assumes nothing.
use mathlib.Core.Path.{◌≡◌, refl, ap, ◌∙◌}
use mathlib.Core.Bool.{Bool, false}
use Prim.Native.Nat.{ℕ, ◌+◌, ◌*◌, ◌-◌, ◌^◌, ◌≤◌, ◌<◌}
use native.Mathlib.Nat.{mul-le-mul_right}
use native.Mathlib.Omega.{arith}
use lib.Dec.{eqb}
use Rattle.kinds.specs.declared.Op.{Op}
use Rattle.kinds.specs.declared.Mode.{Mode}
use Rattle.kinds.specs.Operation.{is_reciprocal}
use Rattle.kinds.specs.Guard.{rest_of}
use Rattle.significand.specs.Width.{k32, t32, Operand}
use Rattle.ieee.specs.Format.{binary32, infinity, magnitude_of}
use Rattle.ieee.specs.Floor.{target_of, Floored, scale_of}
use Rattle.ieee.specs.Answer.{to_finite}
use Rattle.ieee.proofs.Targets.{quotient-small, quotient-large}
use Rattle.ieee.proofs.Whole.{never-half}
use Rattle.pattern.specs.Operand.{Scaling}
use Rattle.pattern.specs.Answer.{Answered}
use Rattle.pattern.specs.Format.{laws32}
use Rattle.pattern.specs.declared.parts.Parts.{Parts}
use Rattle.pattern.specs.declared.operand.Scaled.{Scaled}
use Rattle.pattern.specs.declared.answer.Rounded.{Rounded}
use Rattle.neighbour.specs.Neighbour.{neighbour_of, BelowResult}
use Rattle.neighbour.specs.Scales.{ScalesOf}
use Rattle.neighbour.specs.declared.Neighbour.{Neighbour}
use Rattle.neighbour.specs.declared.scales.Scales.{Scales}
use Rattle.neighbour.proofs.Results.{result-below}
use Rattle.rounding.specs.Rounded.{rounded_from}
use Rattle.floors.specs.Taken.{TakenOf}
use Rattle.floors.specs.declared.taken.Taken.{Taken}
use Rattle.rounding.specs.Normal.{NormalFloor, normal_answer}
use Rattle.rounding.proofs.Short.{taken-most, normal-rounded}
use Rattle.rounding.proofs.Finite.{rounded-finite}
use Rattle.results.specs.Estimate.{EstimateOf}
use Rattle.results.specs.Plain.{Plain}
use Rattle.results.specs.declared.estimate.Estimate.{Estimate}

-- what the raw unit asks
pub operand-is : (op : Op) (y j : ℕ) (k : Scales) → 2 ^ 23 ≤ y → y < 2 ^ 24 → ScalesOf binary32 op j k → Operand k32 t32 op y k.parity
operand-is op y j k least below s = record { significand = record { least = least; below = below }; parity = s.one_bit; even = s.even }

-- a root's operand is positive
pub not-negative : (op : Op) (o : Parts) → Plain op o → is_reciprocal op ≡ false → eqb o.sign 1 ≡ false
not-negative op o p root = rw (p.positive root)

module _ (op : Op) (x : Scaled) (r : Estimate) (e : EstimateOf op x r) where
  abbrev y : ℕ
  y = x.significand

  abbrev k : ℕ
  k = r.scales.scale

  -- the floor of the exact result
  module _ (q : ℕ) (more : Bool) (F : Floored op y (target_of 23 op y r.scales.parity) q more) where
    -- has a significand's bits and a guard bit,
    pub floor-most : q ≤ 2 ^ 25
    floor-most = quotient-small 23 y r.scales.parity q e.scales.one_bit e.operand.significand.least e.operand.significand.below op F.low

    -- is that of a normal result where the operand is plain,
    normal-floor : (o : Parts) → Plain op o → x.exponent ≡ o.exponent + 23 - 1 → NormalFloor binary32 q more k
    normal-floor o p j =
        let at : x.exponent ≡ o.exponent + 22 = omega (arith, p.some) in
        let scale : k ≡ scale_of binary32 op (o.exponent + 22) = e.scales.scale-is ∙ ap (scale_of binary32 op) at in
        let raised : k - 2 ≤ 251 = omega (arith, scale, p.most) in
        let Y = e.operand.significand in
        record {
          scale = omega (arith, scale, p.least);
          least = quotient-large 23 y r.scales.parity q e.scales.one_bit Y.least Y.below op F.high;
          finite = omega (arith, mul-le-mul_right (2 ^ 23) raised, floor-most);
          never-half = never-half 23 y r.scales.parity q e.scales.one_bit Y.least Y.below op more F;
        }

    module _ (t : ℕ) (s : Scaling binary32 (magnitude_of binary32 t) x) (n : Neighbour) (en : n ≡ neighbour_of binary32 q more k) where
      -- and gives the pattern below the exact result, which is rounded to the answer
      exact_below : BelowResult binary32 op t n
      exact_below = result-below binary32 23 31 laws32 t x s op r.scales e.scales q more F n en

      pub below-finite : n.pattern < infinity binary32
      below-finite = exact_below.finite

      pub exact-answered : (mode : Mode) (sign : ℕ) (a : Rounded) → Answered binary32 (rounded_from binary32 mode sign n) a
          → Answered binary32 (to_finite binary32 op mode sign t) a
      exact-answered mode sign a h = rw (← rounded-finite binary32 23 31 laws32 op mode sign t n exact_below) h

  -- the significand that the rounding takes of it
  module _ (o : Parts) (p : Plain op o) (j : x.exponent ≡ o.exponent + 23 - 1) where
    module _ (rest : ℕ) (t : Taken) (h : TakenOf op y (target_of 23 op y r.scales.parity) rest t) where
      floor : NormalFloor binary32 h.floor t.more k
      floor = normal-floor h.floor t.more h.floored o p j

      pub taken-scale : 2 ≤ k
      taken-scale = floor.scale

      pub taken-finite : (k - 2) * 2 ^ 23 + t.significand < infinity binary32
      taken-finite = rw h.is (omega (arith, taken-most rest h.floor t.more, floor.finite))

    module _ (s : Scaling binary32 (magnitude_of binary32 o.unsigned) x) (mode : Mode) (n : Taken) (a : Rounded) where
      pub taken-answered : TakenOf op y (target_of 23 op y r.scales.parity) (rest_of mode (eqb o.sign 1)) n
          → Answered binary32 (normal_answer binary32 o.sign k n.significand n.more) a
          → Answered binary32 (to_finite binary32 op mode o.sign o.unsigned) a
      taken-answered h ans =
          let m : Neighbour = neighbour_of binary32 h.floor n.more k in
          let same = normal-rounded binary32 h.floor k n.more (floor (rest_of mode (eqb o.sign 1)) n h) mode o.sign in
          exact-answered h.floor n.more h.floored o.unsigned s m refl mode o.sign a (rw (same, ← h.is) ans)
