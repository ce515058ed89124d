-- A centre of an accepted map before the lift is near its point, and its coordinates are small. Assumes nothing.
use Prim.Native.Nat.{ℕ, ◌+◌, ◌-◌, ◌*◌, ◌≤◌, ◌<◌}
use mathlib.Core.Path.{◌≡◌, refl, ap, ◌∙◌}
use mathlib.Core.List.{List}
use native.Mathlib.Omega.{arith}
use lib.IntN.{ℤ, pos, nat_abs, sub_ℕ, ◌+ℤ◌, ◌-ℤ◌, +ℤ_comm, +ℤ-neg_ℤ_cancel}
use Rattle.kinds.specs.declared.Mode.{Mode}
use Rattle.numbers.proofs.Differences.{over, under, as-diff, abs-parts, diff-eq, diff-more}
use Rattle.words.specs.Signed.{with_sign}
use Rattle.trailer.specs.declared.Fields.{Fields}
use Rattle.cutter.specs.Limits.{radius_most, height_most}
use Rattle.cutter.specs.Map.{Inner, height_at}
use Rattle.cutter.specs.Offset.{offset_of}
use Rattle.cutter.specs.Centre.{Point, coordinate, centre_of, point_at}
use Rattle.cutter.specs.Accepted.{Ready}
use Rattle.cutter.proofs.Offsets.{offset-most}
use Rattle.cutter.proofs.Places.{place_in}
use Rattle.cutter.proofs.Points.{InRange, normal_along, length_at, coordinate-is, coordinate-most, length-pos, component-part}
use Rattle.lift.specs.Record.{Reaches}

-- what is added to a place is what lies beyond it
beyond : (a : ℕ) (o : ℤ) → pos a +ℤ o -ℤ pos a ≡ o
beyond a o = ap (λ (z : ℤ). z -ℤ pos a) (+ℤ_comm (pos a) o) ∙ +ℤ-neg_ℤ_cancel o (pos a)

-- a height with the bias
raised : (h : ℤ) → nat_abs h ≤ height_most → h ≡ sub_ℕ (over h + height_most - under h) height_most
raised h l = as-diff h ∙ diff-eq (over h) (under h) (over h + height_most - under h) height_most (omega (arith, abs-parts h))

module _ (mode : Mode) (step radius : ℕ) (p : Point) (h : InRange step radius p) where
  offset-short : (j : ℕ) → nat_abs (offset_of mode (normal_along step p j) radius (length_at step p)) ≤ radius_most
  offset-short j =
      omega (
        arith,
        offset-most mode (normal_along step p j) radius (length_at step p) (length-pos step radius p h) (component-part step radius p h j),
        h.steps.radius-most,
      )

  abbrev up : ℕ
  up = nat_abs (offset_of mode (pos (2 * step)) radius (length_at step p))

  up_is : offset_of mode (pos (2 * step)) radius (length_at step p) ≡ pos up
  unfolding offset_of with_sign
  up_is = refl

  near : Reaches step p.column p.row (centre_of mode step radius p)
  near =
      record {
        x = rw (coordinate-is mode step radius p 0, beyond) (offset-short 0);
        y = rw (coordinate-is mode step radius p 1, beyond) (offset-short 1);
        biased = over p.height + height_most - under p.height + up;
        z =
            coordinate-is mode step radius p 2
            ∙ ap (λ (o : ℤ). p.height +ℤ o) up_is
            ∙ ap (λ (k : ℤ). k +ℤ pos up) (raised p.height h.height-to)
            ∙ diff-more (over p.height + height_most - under p.height) height_most up;
        small = omega (arith, abs-parts p.height, h.height-to, offset-short 2);
      }

module _ (mode : Mode) (m : List ℕ) (t : Fields) (c q : ℕ) (r : Ready m t) (i : Inner t.width t.depth c q) where
  point-in-range : InRange t.step t.radius (point_at m t.width c q)
  unfolding point_at height_at
  point-in-range =
      record {
        steps = r.steps;
        column-to = omega (arith, i.right, r.sizes.narrow);
        row-to = omega (arith, i.below, r.sizes.shallow);
        height-to = r.heights.small (q * t.width + c) (place_in t.width t.depth c q i);
      }

  pub touching-reaches : Reaches t.step c q (centre_of mode t.step t.radius (point_at m t.width c q))
  unfolding point_at
  touching-reaches = near mode t.step t.radius (point_at m t.width c q) point-in-range

  pub touching-small : (j : ℕ) → nat_abs (coordinate (centre_of mode t.step t.radius (point_at m t.width c q)) j) < 2147483648
  touching-small j = omega (arith, coordinate-most t.step t.radius (point_at m t.width c q) point-in-range mode j)
