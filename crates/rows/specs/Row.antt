-- The rows of a map's inner points, as the code puts them. Assumes nothing.
use Rattle.std.specs.Prelude.{ℕ, ◌+◌, ◌-◌, ◌*◌, ◌<◌, List}
use Rattle.kinds.specs.declared.Mode.{Mode}
use Rattle.kinds.specs.declared.Rule.{Rule}
use Rattle.words.specs.Joined.{joined}
use Rattle.trailer.specs.declared.Fields.{Fields}
use Rattle.cutter.specs.Centre.{Centre, record_bytes}
use Rattle.cutter.specs.Lift.{lifted}
use Rattle.cutter.specs.List.{record_at}
use Rattle.lift.specs.Record.{centre_read, Reaches}

-- the record of point n of a row of k inner points, where row and n are counted from 0
unfoldable pub row_record : Rule → Mode → List ℕ → ℕ → ℕ → ℕ → List ℕ
row_record rule mode m k row n = record_at rule mode m (row * k + n)

-- the records of a row
unfoldable pub row_bytes : Rule → Mode → List ℕ → ℕ → ℕ → List ℕ
row_bytes rule mode m k row = joined (row_record rule mode m k row) k

-- the centre that stands as record n of a row in bytes b
abbrev pub standing : Fields → ℕ → List ℕ → ℕ → Centre
standing t row b n = centre_read b (row * (12 * (t.width - 2)) + n * 12)

-- its record, lifted
unfoldable pub lifted_record : List ℕ → Fields → ℕ → List ℕ → ℕ → List ℕ
lifted_record m t row b n = record_bytes (lifted m t.width t.step t.radius (n + 1) (row + 1) (standing t row b n))

-- each of a row's is one before the lift
pub record RowReaches (t : Fields) (row : ℕ) (b : List ℕ) : Type 0 where
  pub each : (n : ℕ) → n < t.width - 2 → Reaches t.step (n + 1) (row + 1) (standing t row b n)
