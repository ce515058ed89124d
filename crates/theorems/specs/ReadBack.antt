-- A list of a map, read back by the record call. Assumes nothing.
use Rattle.std.specs.Prelude.{◌≡◌, List, ℕ, ◌≤◌, ◌<◌, Option, Ok, Err}
use Rattle.kinds.specs.Rounding.{mode_of}
use Rattle.kinds.specs.declared.Rule.{Rule}
use Rattle.kinds.specs.declared.Refusal.TheVariants.{Index}
use Rattle.cutter.specs.Map.{width_of, depth_of, step_of, radius_of}
use Rattle.cutter.specs.List.{count_of, centre_at}
use Rattle.plate.specs.declared.Rounding.{Rounding}
use Rattle.plate.specs.declared.ListRecord.{ListRecord}
use Rattle.plate.specs.Record.{record_call}

-- what is told of the rounding, the sizes of the map m, and the centre of its inner point n by a rule and in a rounding
abbrev pub centre_read : Rule → Option Rounding → ℕ → List ℕ → ℕ → ListRecord
centre_read rule told rounding m n =
    record {
      rounding = told;
      width = width_of m;
      depth = depth_of m;
      step = step_of m;
      radius = radius_of m;
      x = (centre_at rule (mode_of rounding) m n).x;
      y = (centre_at rule (mode_of rounding) m n).y;
      z = (centre_at rule (mode_of rounding) m n).z;
    }

-- the list tells that of its rounding, and holds the map's sizes and its centres by the rule and in the rounding, one record an inner point, and no other
pub record ReadBack (rule : Rule) (told : Option Rounding) (rounding : ℕ) (m list : List ℕ) : Type 0 where
  pub each : (n : ℕ) → n < count_of (width_of m) (depth_of m) → record_call list n ≡ Ok (centre_read rule told rounding m n)
  pub beyond : (n : ℕ) → count_of (width_of m) (depth_of m) ≤ n → record_call list n ≡ Err Index
