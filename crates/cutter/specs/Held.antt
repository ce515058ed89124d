-- What the lent buffer holds after an accepted call. Assumes nothing.
use Rattle.std.specs.Prelude.{ℕ, ◌*◌, ◌<◌, ◌≡◌, List, length, take, drop}
use Rattle.kinds.specs.Rounding.{mode_of}
use Rattle.kinds.specs.declared.Rule.{Rule}
use Rattle.cutter.specs.Map.{width_of, depth_of}
use Rattle.cutter.specs.Centre.{coordinate}
use Rattle.cutter.specs.List.{count_of, centre_at, all_records, list_length, list_bytes, entry_at}
use Rattle.cutter.specs.Call.{list_answer, buffer_after}

-- the length reported is the list's; the list stands at the buffer's front, its records first, entry j of record n being coordinate j of
-- the centre n, and the caller's bytes stand behind it
pub record ListHeld (rule : Rule) (rounding : ℕ) (m out : List ℕ) : Type 0 where
  pub reported : list_answer rounding m (length out) ≡ list_length m
  pub front : take (list_length m) (buffer_after rule rounding m out) ≡ list_bytes rule (mode_of rounding) m
  pub records : take (12 * count_of (width_of m) (depth_of m)) (buffer_after rule rounding m out) ≡ all_records rule (mode_of rounding) m
  pub behind : drop (list_length m) (buffer_after rule rounding m out) ≡ drop (list_length m) out
  pub entry : (n j : ℕ) → n < count_of (width_of m) (depth_of m) → j < 3
      → entry_at (buffer_after rule rounding m out) n j ≡ coordinate (centre_at rule (mode_of rounding) m n) j
