-- A map: its trailer's fields, its heights, and the differences at a point. Assumes nothing.
use Rattle.std.specs.Prelude.{ℕ, ◌+◌, ◌-◌, ◌*◌, ◌≤◌, ◌<◌, List, ℤ, ◌-ℤ◌}
use Rattle.words.specs.Word.{word_at}
use Rattle.words.specs.Signed.{signed}
use Rattle.trailer.specs.Bytes.{last_fields}
use Rattle.trailer.specs.declared.Kind.TheVariants.{Plt1}
use Rattle.trailer.specs.declared.Fields.{Fields}

-- the trailer, of the kind PLT1, is what a map ends in: the distance back to the first height, w, d, step and radius
abbrev pub trailer_of : List ℕ → Fields
trailer_of m = last_fields Plt1 m

abbrev pub distance_of : List ℕ → ℕ
distance_of m = (trailer_of m).distance

abbrev pub width_of : List ℕ → ℕ
width_of m = (trailer_of m).width

abbrev pub depth_of : List ℕ → ℕ
depth_of m = (trailer_of m).depth

abbrev pub step_of : List ℕ → ℕ
step_of m = (trailer_of m).step

abbrev pub radius_of : List ℕ → ℕ
radius_of m = (trailer_of m).radius

-- the point at column c and row q of a w × d map, both counted from 0, is an inner one: it has four neighbours
pub record Inner (w d c q : ℕ) : Type 0 where
  pub left : 1 ≤ c
  pub right : c + 1 < w
  pub above : 1 ≤ q
  pub below : q + 1 < d

-- the height at column c and row q of a map that is w wide, in micrometres
unfoldable pub height_at : List ℕ → ℕ → ℕ → ℕ → ℤ
height_at m w c q = signed (word_at m (4 * (q * w + c)))

-- dx is the right height less the left, dy the height of row q + 1 less that of row q − 1
unfoldable pub dx_at : List ℕ → ℕ → ℕ → ℕ → ℤ
dx_at m w c q = height_at m w (c + 1) q -ℤ height_at m w (c - 1) q

unfoldable pub dy_at : List ℕ → ℕ → ℕ → ℕ → ℤ
dy_at m w c q = height_at m w c (q + 1) -ℤ height_at m w c (q - 1)
