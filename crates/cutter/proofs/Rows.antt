-- The worked examples, by computing. Assumes nothing.
use mathlib.Core.Path.{refl}
use Rattle.kinds.specs.Rounding.{away, place_by, rounded_by}
use Rattle.numbers.specs.Greatest.{greatest, greatest_from}
use Rattle.numbers.specs.Least.{least}
use Rattle.words.specs.Signed.{signed, with_sign}
use Rattle.trailer.specs.Bytes.{fields_at, last_fields}
use Rattle.cutter.specs.Map.{height_at, dx_at, dy_at}
use Rattle.cutter.specs.Offset.{floor_over, place_over, rounded_over, offset_of}
use Rattle.cutter.specs.Centre.{point_at, centre_of}
use Rattle.cutter.specs.Lift.{clears, meets, meets_all, lifted_over, contact_at, three_at, nine_at, lifted}
use Rattle.cutter.specs.List.{centre_at}
use Rattle.cutter.specs.Rows.{OffsetRow, LiftRows}

pub offset-row : OffsetRow
unfolding offset_of rounded_over place_over floor_over with_sign away place_by rounded_by greatest greatest_from
offset-row = record { length = refl; x-down = refl; x-up = refl; x-toward-zero = refl; z-down = refl; z-up = refl }

pub lift-rows : LiftRows
unfolding centre_at last_fields fields_at signed height_at dx_at dy_at point_at centre_of lifted nine_at three_at contact_at lifted_over meets_all meets clears least offset_of rounded_over place_over floor_over with_sign away place_by rounded_by greatest greatest_from
lift-rows =
    record {
      down = refl;
      by-neighbour = refl;
      neighbour = refl;
      not_own = refl;
      toward_zero = refl;
      by-own = refl;
      own = refl;
      not-neighbour = refl;
    }
