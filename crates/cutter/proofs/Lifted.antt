-- REQUEST #104, of an accepted map: the lifted z meets the rule for each of the nine heights, no smaller number does, and where the old z
-- does it is kept. Assumes nothing.
use Prim.Native.Nat.{ℕ, ◌<◌}
use mathlib.Core.Path.{◌≡◌, ap}
use native.Mathlib.Omega.{arith}
use mathlib.Core.List.{List}
use lib.IntN.{ℤ}
use Rattle.kinds.specs.declared.Mode.{Mode}
use Rattle.kinds.specs.declared.Rule.TheVariants.{Touching, Lifted}
use Rattle.cutter.specs.Limits.{height_most}
use Rattle.cutter.specs.Map.{width_of, depth_of, step_of, radius_of}
use Rattle.cutter.specs.Lift.{contact_at, lifted}
use Rattle.cutter.specs.Lifted.{Near, Meets, MeetsAll, LiftedTo}
use Rattle.cutter.specs.List.{count_of, column_of, row_of, centre_at}
use Rattle.cutter.specs.Accepted.{Accepted}
use Rattle.cutter.proofs.Lifts.{nine-each, lifted-is-least, lifted-keeps}
use Rattle.cutter.proofs.Points.{nine_of, nine-within, centre-most}

module _ (m : List ℕ) {room : ℕ} (a : Accepted m room) (mode : Mode) (n : ℕ) (h : n < count_of (width_of m) (depth_of m)) where
  -- the lifted z
  pub lifted-to : LiftedTo (radius_of m) (nine_of mode m n) (centre_at Touching mode m n).z (centre_at Lifted mode m n).z
  unfolding centre_at lifted
  lifted-to =
      lifted-is-least (radius_of m) (nine_of mode m n) (centre_at Touching mode m n).z height_most (nine-within m a mode n h)
      (omega (arith, centre-most m a mode n h 2, a.trailed.steps.radius-most))

  -- each of the nine
  pub each-met : (a b : ℕ) → Near (column_of (width_of m) n) (row_of (width_of m) n) a b
      → Meets (radius_of m) (centre_at Lifted mode m n).z (contact_at m (width_of m) (step_of m) (centre_at Touching mode m n) a b)
  unfolding centre_at
  each-met =
      nine-each (Meets (radius_of m) (centre_at Lifted mode m n).z) m (width_of m) (step_of m) (centre_at Touching mode m n) (column_of (width_of m) n) (row_of (width_of m) n)
      lifted-to.meets

-- the centre is kept where its z meets the rule for all
pub lifted-kept : (m : List ℕ) (mode : Mode) (n : ℕ) → MeetsAll (radius_of m) (centre_at Touching mode m n).z (nine_of mode m n)
    → centre_at Lifted mode m n ≡ centre_at Touching mode m n
unfolding centre_at lifted
lifted-kept m mode n t =
    ap (λ (z : ℤ). record { x = (centre_at Touching mode m n).x; y = (centre_at Touching mode m n).y; z = z })
    (lifted-keeps (radius_of m) (nine_of mode m n) (centre_at Touching mode m n).z t)
