-- A lifted list beside the list before the lift. Assumes nothing.
use Rattle.std.specs.Prelude.{◌≡◌, List, ℕ, ◌*◌, ◌<◌, take, drop, Result}
use Rattle.kinds.specs.declared.Refusal.{Refusal}
use Rattle.kinds.specs.Refusal.{answer_of}
use Rattle.cutter.specs.Map.{width_of, depth_of, step_of, radius_of}
use Rattle.cutter.specs.Centre.{Centre}
use Rattle.cutter.specs.Lift.{nine_at}
use Rattle.cutter.specs.Lifted.{LiftedTo}
use Rattle.cutter.specs.List.{count_of, column_of, row_of, entry_at}

-- the centre of record n in the bytes of a list
abbrev pub centre_in : List ℕ → ℕ → Centre
centre_in list n = record { x = entry_at list n 0; y = entry_at list n 1; z = entry_at list n 2 }

-- two lists of the map m, each what a call left in its buffer: x and y of each record are the same; z of the lifted one is the least number
-- that is not below the first one's and meets the rule for the nine heights round the point, as they lie from the first one's x and y; behind
-- the records, over the lengths reported, the lists are alike
pub record LiftedFrom (m : List ℕ) (one other : Result ℕ Refusal) (first lifted : List ℕ) : Type 0 where
  pub x : (n : ℕ) → n < count_of (width_of m) (depth_of m) → entry_at lifted n 0 ≡ entry_at first n 0
  pub y : (n : ℕ) → n < count_of (width_of m) (depth_of m) → entry_at lifted n 1 ≡ entry_at first n 1
  pub z : (n : ℕ) → n < count_of (width_of m) (depth_of m)
      → LiftedTo (radius_of m) (nine_at m (width_of m) (step_of m) (centre_in first n) (column_of (width_of m) n) (row_of (width_of m) n)) (entry_at first n 2) (entry_at lifted n 2)
  pub ends : drop (12 * count_of (width_of m) (depth_of m)) (take (answer_of other) lifted) ≡ drop (12 * count_of (width_of m) (depth_of m)) (take (answer_of one) first)
