-- The list of a map: one record per inner point, row by row, then a trailer. Assumes nothing.
use Rattle.std.specs.Prelude.{ℕ, ◌+◌, ◌-◌, ◌*◌, ◌/◌, ◌%◌, Bool, true, false, List, ◌++◌, ℤ}
use Rattle.kinds.specs.Rounding.{number_of}
use Rattle.kinds.specs.declared.Mode.{Mode}
use Rattle.kinds.specs.declared.Rule.{Rule}
use Rattle.kinds.specs.declared.Rule.TheVariants.{Touching, Lifted}
use Rattle.words.specs.Word.{word_at}
use Rattle.words.specs.Signed.{signed}
use Rattle.words.specs.Joined.{joined}
use Rattle.trailer.specs.Kinds.{length_of, is_rounded, new_list}
use Rattle.trailer.specs.Bytes.{trailer_bytes}
use Rattle.trailer.specs.declared.Kind.{Kind}
use Rattle.trailer.specs.declared.Fields.{Fields}
use Rattle.cutter.specs.Map.{width_of, depth_of, step_of, radius_of}
use Rattle.cutter.specs.Centre.{Point, Centre, centre_of, point_at, record_bytes}
use Rattle.cutter.specs.Lift.{lifted}

-- how many inner points a map has
abbrev pub count_of : ℕ → ℕ → ℕ
count_of w d = (w - 2) * (d - 2)

-- the column and the row of the inner point n, counted from 0, row by row, of a map that is w wide
abbrev pub column_of : ℕ → ℕ → ℕ
column_of w n = n % (w - 2) + 1

abbrev pub row_of : ℕ → ℕ → ℕ
row_of w n = n / (w - 2) + 1

-- that point of a map
abbrev pub inner_point : List ℕ → ℕ → Point
inner_point m n = point_at m (width_of m) (column_of (width_of m) n) (row_of (width_of m) n)

-- the centre at column c and row q of a map that is w wide, by the rule that it follows
abbrev pub centre_by : Rule → Mode → List ℕ → ℕ → ℕ → ℕ → ℕ → ℕ → Centre
centre_by Touching mode m w step radius c q = centre_of mode step radius (point_at m w c q)
centre_by Lifted mode m w step radius c q = lifted m w step radius c q (centre_of mode step radius (point_at m w c q))

-- that of the inner point n
unfoldable pub centre_at : Rule → Mode → List ℕ → ℕ → Centre
centre_at rule mode m n = centre_by rule mode m (width_of m) (step_of m) (radius_of m) (column_of (width_of m) n) (row_of (width_of m) n)

-- its record
unfoldable pub record_at : Rule → Mode → List ℕ → ℕ → List ℕ
record_at rule mode m n = record_bytes (centre_at rule mode m n)

-- the records of all inner points
unfoldable pub all_records : Rule → Mode → List ℕ → List ℕ
all_records rule mode m = joined (record_at rule mode m) (count_of (width_of m) (depth_of m))

-- the rounding that a trailer states: the number of the list's, or 0 in a kind that has none
abbrev pub stated_rounding : Bool → Mode → ℕ
stated_rounding true mode = number_of mode
stated_rounding false mode = 0

-- the fields of the trailer: the distance back to the first record, the map's w, d, step and radius, and the rounding
abbrev pub list_fields : Kind → Mode → List ℕ → Fields
list_fields k mode m =
    record {
      distance = 12 * count_of (width_of m) (depth_of m);
      width = width_of m;
      depth = depth_of m;
      step = step_of m;
      radius = radius_of m;
      rounding = stated_rounding (is_rounded k) mode;
    }

-- the list of a map with a trailer of a kind behind its records
unfoldable pub list_of : Kind → Rule → Mode → List ℕ → List ℕ
list_of k rule mode m = all_records rule mode m ++ trailer_bytes k (list_fields k mode m)

-- the complete list, as the call writes it, and how long it is
abbrev pub list_bytes : Rule → Mode → List ℕ → List ℕ
list_bytes rule mode m = list_of new_list rule mode m

unfoldable pub list_length : List ℕ → ℕ
list_length m = 12 * count_of (width_of m) (depth_of m) + length_of new_list

-- the x, y or z (j is 0, 1 or 2) of record n in the bytes of a list, as a signed number
abbrev pub entry_at : List ℕ → ℕ → ℕ → ℤ
entry_at bytes n j = signed (word_at bytes (12 * n + 4 * j))
