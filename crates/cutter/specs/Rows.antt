-- Worked examples: the offset row of document 01's table, and the smallest map on which a centre is lifted. Assumes nothing.
use Rattle.std.specs.Prelude.{ℕ, ◌≡◌, List, [], ◌∷◌, ◌++◌, pos, neg_ℤ}
use Rattle.kinds.specs.declared.Mode.TheVariants.{Up, Down, TowardZero}
use Rattle.kinds.specs.declared.Rule.TheVariants.{Touching, Lifted}
use Rattle.cutter.specs.Offset.{squared_length, offset_of}
use Rattle.cutter.specs.Centre.{Centre}
use Rattle.cutter.specs.Lift.{contact_at}
use Rattle.cutter.specs.List.{centre_at}

-- dx 1,000, dy 0, step 1,000 and radius 1,000: the squared length of the normal, and the offsets along x and z
pub record OffsetRow : Type 0 where
  pub length : squared_length (pos 1000) (pos 0) 1000 ≡ 5000000
  pub x-down : offset_of Down (neg_ℤ (pos 1000)) 1000 5000000 ≡ neg_ℤ (pos 448)
  pub x-up : offset_of Up (neg_ℤ (pos 1000)) 1000 5000000 ≡ neg_ℤ (pos 447)
  pub x-toward-zero : offset_of TowardZero (neg_ℤ (pos 1000)) 1000 5000000 ≡ neg_ℤ (pos 447)
  pub z-down : offset_of Down (pos 2000) 1000 5000000 ≡ pos 894
  pub z-up : offset_of Up (pos 2000) 1000 5000000 ≡ pos 895

-- 3 × 3 heights, 0 but for 1 to the right of the middle, step 1 and radius 1: the least sizes, step and radius, and one height that is not 0
abbrev pub smallest : List ℕ
smallest =
    (0 ∷ 0 ∷ 0 ∷ 0 ∷ 0 ∷ 0 ∷ 0 ∷ 0 ∷ 0 ∷ 0 ∷ 0 ∷ 0 ∷ [])
    ++ (0 ∷ 0 ∷ 0 ∷ 0 ∷ 0 ∷ 0 ∷ 0 ∷ 0 ∷ 1 ∷ 0 ∷ 0 ∷ 0 ∷ [])
    ++ (0 ∷ 0 ∷ 0 ∷ 0 ∷ 0 ∷ 0 ∷ 0 ∷ 0 ∷ 0 ∷ 0 ∷ 0 ∷ 0 ∷ [])
    ++ (80 ∷ 76 ∷ 84 ∷ 49 ∷ 36 ∷ 0 ∷ 0 ∷ 0 ∷ 3 ∷ 0 ∷ 3 ∷ 0 ∷ 1 ∷ 0 ∷ 1 ∷ 0 ∷ [])

abbrev pub centre : ℕ → ℕ → ℕ → Centre
centre x y z = record { x = pos x; y = pos y; z = pos z }

-- rounded down the centre stands over its left neighbour, which lifts it; its own height is a radius away, and does not. Rounded toward zero
-- it stands over its own height, which lifts it, while every other is a radius away or more
pub record LiftRows : Type 0 where
  pub down : centre_at Touching Down smallest 0 ≡ centre 0 1 0
  pub by-neighbour : centre_at Lifted Down smallest 0 ≡ centre 0 1 1
  pub neighbour : contact_at smallest 3 1 (centre 0 1 0) 0 1 ≡ record { height = pos 0; apart = 0 }
  pub not_own : contact_at smallest 3 1 (centre 0 1 0) 1 1 ≡ record { height = pos 0; apart = 1 }
  pub toward_zero : centre_at Touching TowardZero smallest 0 ≡ centre 1 1 0
  pub by-own : centre_at Lifted TowardZero smallest 0 ≡ centre 1 1 1
  pub own : contact_at smallest 3 1 (centre 1 1 0) 1 1 ≡ record { height = pos 0; apart = 0 }
  pub not-neighbour : contact_at smallest 3 1 (centre 1 1 0) 0 1 ≡ record { height = pos 0; apart = 1 }
