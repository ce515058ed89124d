-- A point that is prepared for every rounding, and a row of such points. Assumes nothing.
use Rattle.std.specs.Prelude.{ℕ, ◌+◌, ◌*◌, ◌<◌, ◌≡◌, List, neg_ℤ, slice_index_or}
use Rattle.words.specs.Parts.{parts_of}
use Rattle.words.specs.declared.Signed.{Signed}
use Rattle.trailer.specs.declared.Fields.{Fields}
use Rattle.cutter.specs.Map.{dx_at, dy_at}
use Rattle.maps.specs.declared.Point.{Point}
use Rattle.offset.specs.Inverse.{ScaleOf}
use Rattle.offset.specs.declared.Component.{Component}
use Rattle.centres.specs.declared.Prepared.{Prepared}

-- a component's sign and magnitude
abbrev pub signed_of : Component → Signed
signed_of c = record { negative = c.negative; magnitude = c.magnitude }

-- the squared length of the normal
abbrev pub squared_of : Prepared → ℕ → ℕ
squared_of p step = p.x.square + p.y.square + 4 * step * step

-- p is the point at a column and a row of a map: the normal's first two components, −dx and −dy, and the radius over its length
pub record PreparedOf (m : List ℕ) (t : Fields) (column row : ℕ) (p : Prepared) : Type 0 where
  pub x : signed_of p.x ≡ parts_of (neg_ℤ (dx_at m t.width column row))
  pub y : signed_of p.y ≡ parts_of (neg_ℤ (dy_at m t.width column row))
  pub scale : ScaleOf (squared_of p t.step) t.radius p.scale

abbrev pub PreparedAt : Point → Prepared → Type 0
PreparedAt point p = PreparedOf point.map.bytes.now point.map.trailer point.column point.row p

-- the first n places hold the first n inner points of a row, which is counted from 0
pub record RowHeld (m : List ℕ) (t : Fields) (row n : ℕ) (l : List Prepared) : Type 0 where
  pub each : (c : ℕ) (none : Prepared) → c < n → PreparedOf m t (c + 1) (row + 1) (slice_index_or l c none)
