-- Document 01's example of what is printed, whole, and what empty input prints. Assumes nothing.
use mathlib.Core.Path.{◌≡◌, refl}
use mathlib.Core.List.{List, [], ◌∷◌, ◌++◌}
use Prim.Native.Nat.{ℕ}
use Rattle.kinds.specs.Question.{ask, then_ask}
use Rattle.kinds.specs.Rounding.{away, place_by, rounded_by}
use Rattle.numbers.specs.Greatest.{greatest, greatest_from}
use Rattle.words.specs.Joined.{joined}
use Rattle.words.specs.Signed.{signed, with_sign}
use Rattle.trailer.specs.Bytes.{fields_at, last_fields, ends_in}
use Rattle.cutter.specs.Map.{height_at, dx_at, dy_at}
use Rattle.cutter.specs.Offset.{floor_over, place_over, rounded_over, offset_of}
use Rattle.cutter.specs.Centre.{point_at, centre_of}
use Rattle.numbers.specs.Least.{least}
use Rattle.cutter.specs.Lift.{clears, meets, meets_all, lifted_over, contact_at, three_at, nine_at, lifted}
use Rattle.cutter.specs.List.{centre_at, list_length}
use Rattle.cutter.specs.Sizes.{trailer_refusal}
use Rattle.cutter.specs.Call.{heights_within, heights_refusal, map_refusal, list_refusal}
use Rattle.decimal.specs.Digits.{digits_within, decimal, signed_decimal}
use Rattle.printing.specs.Line.{line}
use Rattle.text.specs.Text.{sizes_line, list_text, refused_text, text_refusal, platelist_text}

-- a row of heights 0, 1,500 and 3,000
abbrev row : List ℕ
row = 0 ∷ 0 ∷ 0 ∷ 0 ∷ 220 ∷ 5 ∷ 0 ∷ 0 ∷ 184 ∷ 11 ∷ 0 ∷ 0 ∷ []

-- PLT1, 36 bytes back, 3 × 3, step 2,000, radius 5,000
abbrev trailer : List ℕ
trailer = 80 ∷ 76 ∷ 84 ∷ 49 ∷ 36 ∷ 0 ∷ 0 ∷ 0 ∷ 3 ∷ 0 ∷ 3 ∷ 0 ∷ 208 ∷ 7 ∷ 136 ∷ 19 ∷ []

-- "3 3 2000 5000" and "1 1 -1000 2000 5500", a newline behind each
pub example : platelist_text (row ++ row ++ row ++ trailer)
    ≡ 51 ∷ 32 ∷ 51 ∷ 32 ∷ 50 ∷ 48 ∷ 48 ∷ 48 ∷ 32 ∷ 53 ∷ 48 ∷ 48 ∷ 48 ∷ 10 ∷ 49 ∷ 32 ∷ 49 ∷ 32 ∷ 45 ∷ 49 ∷ 48 ∷ 48 ∷ 48 ∷ 32 ∷ 50 ∷ 48 ∷ 48 ∷ 48 ∷ 32 ∷ 53 ∷ 53 ∷ 48 ∷ 48 ∷ 10 ∷ []
unfolding platelist_text text_refusal list_text sizes_line line signed_decimal decimal digits_within list_refusal map_refusal trailer_refusal heights_refusal then_ask ask ends_in last_fields fields_at heights_within list_length signed joined centre_at lifted nine_at three_at contact_at lifted_over meets_all meets clears least centre_of point_at height_at dx_at dy_at offset_of rounded_over place_over floor_over with_sign away place_by rounded_by greatest greatest_from
example = refl

-- "refused 5" and a newline
pub empty : platelist_text [] ≡ 114 ∷ 101 ∷ 102 ∷ 117 ∷ 115 ∷ 101 ∷ 100 ∷ 32 ∷ 53 ∷ 10 ∷ []
unfolding platelist_text text_refusal refused_text line signed_decimal decimal digits_within list_refusal map_refusal trailer_refusal then_ask ask
empty = refl
