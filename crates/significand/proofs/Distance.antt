-- THE DISTANCES. For every significand y, parity p and operation, the raw answer g is less than 12 (reciprocal) or 7 (both roots) away from 2^(4k)
-- times the exact value, for every digit size k from 7 up and any number t of bits below the three digits. Assumes nothing.
use mathlib.Core.Path.{subst, sym}
use mathlib.Core.Bool.{Bool}
use Prim.Native.Nat.{ℕ, ◌+◌, ◌*◌, ◌-◌, ◌^◌, ◌≤◌, ◌<◌}
use native.Mathlib.Nat.{mul-sub}
use native.Mathlib.Omega.{arith}
use Rattle.kinds.specs.declared.Op.{Op}
use Rattle.kinds.specs.declared.Op.TheVariants.{Reciprocal, Root, InverseRoot}
use Rattle.significand.specs.Width.{Significand}
use Rattle.significand.specs.Steps.{index_of, factor_of, sign_of, reduced_of, series_of, multiplier_of, raw_of}
use Rattle.significand.specs.Distance.{Near, bound_of, Between}
use Rattle.significand.proofs.Close.{Close, series-close}
use Rattle.significand.proofs.Scale.{whole_is}
use Rattle.significand.proofs.General.{general}
use Rattle.significand.proofs.Reduction.{least, most, reduced-small, reduced}
use Rattle.significand.proofs.Sums.{point_of, summed}
use Rattle.significand.proofs.Multiplier.{multiplies}

module _ (op : Op) (k t y p : ℕ) (h : 7 ≤ k) (e : p ≤ 1) (Y : Significand k t y) where
  -- R, y R, its sign and a
  abbrev r : ℕ
  r = factor_of k (index_of k t y)

  abbrev s : Bool
  s = sign_of k t (y * r)

  abbrev a : ℕ
  a = reduced_of k t (y * r)

  abbrev b : ℕ
  b = series_of k op s a

  -- b is close to the exact series of y R
  close : Close op (2 ^ (4 * k)) (2 ^ t) (y * r) b
  close =
      subst (λ (n : ℕ). Close op n (2 ^ t) (y * r) b) (sym (whole_is k))
      (series-close op s (point_of k op s a) (2 ^ t) (y * r) (reduced k t y h Y).from (reduced k t y h Y).upto
      (summed k a h (reduced-small k t y h Y) op s))

  -- g is less than its distance away, and a reciprocal less than 5 above
  pub between : Between op k t y p (raw_of k t op y p)
  unfolding raw_of
  between =
      general k t y r p (multiplier_of k op r p) b h e Y (least k t y h Y) (most k t y h Y) op
      (multiplies k r p (omega arith) e (least k t y h Y) (most k t y h Y) op) close

  -- THE THEOREM: g is less than 12, 7 and 7 away
  pub distance : Near op k t y p (bound_of op) (raw_of k t op y p)
  distance = between.near

-- The three by themselves, written out. Here m = 3k + t − 1.
module _ (k t y : ℕ) (h : 7 ≤ k) (Y : Significand k t y) where
  pub reciprocal-distance : let g : ℕ = raw_of k t Reciprocal y 0 in
      (g * y < 2 ^ (4 * k + (3 * k + t - 1)) + 12 * y) × (2 ^ (4 * k + (3 * k + t - 1)) < g * y + 12 * y)
  reciprocal-distance =
      let g : ℕ = raw_of k t Reciprocal y 0 in
      let d : Near Reciprocal k t y 0 12 g = distance Reciprocal k t y 0 h (omega arith) Y in
      omega (arith, d.under, d.over, d.enough, mul-sub y g 12)

  module _ (p : ℕ) (e : p ≤ 1) where
    pub root-distance : let g : ℕ = raw_of k t Root y p in
        (7 ≤ g) × ((g - 7) * (g - 7) * 2 ^ (3 * k + t - 1) < y * 2 ^ (8 * k + p)) × (y * 2 ^ (8 * k + p) < (g + 7) * (g + 7) * 2 ^ (3 * k + t - 1))
    root-distance =
        let d : Near Root k t y p 7 (raw_of k t Root y p) = distance Root k t y p h e Y in
        (d.enough, d.under, d.over)

    pub inverse-root-distance : let g : ℕ = raw_of k t InverseRoot y p in
        (7 ≤ g) × ((g - 7) * (g - 7) * y * 2 ^ p < 2 ^ (8 * k + (3 * k + t - 1))) × (2 ^ (8 * k + (3 * k + t - 1)) < (g + 7) * (g + 7) * y * 2 ^ p)
    inverse-root-distance =
        let d : Near InverseRoot k t y p 7 (raw_of k t InverseRoot y p) = distance InverseRoot k t y p h e Y in
        (d.enough, d.under, d.over)
