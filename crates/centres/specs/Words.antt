-- The offsets at a point, and the words of a centre, as the code has them. Assumes nothing.
use Rattle.std.specs.Prelude.{ℕ, ◌*◌, ◌≤◌, false, List, ◌++◌}
use Rattle.kinds.specs.declared.Mode.{Mode}
use Rattle.words.specs.Word.{word_bytes}
use Rattle.words.specs.declared.Signed.{Signed}
use Rattle.cutter.specs.Limits.{radius_most}
use Rattle.cutter.specs.Offset.{rounded_over}
use Rattle.cutter.specs.Centre.{Centre, centre_of, point_at}
use Rattle.maps.specs.declared.Point.{Point}
use Rattle.centres.specs.Prepared.{signed_of, squared_of}
use Rattle.centres.specs.declared.Offsets.{Offsets}
use Rattle.centres.specs.declared.Prepared.{Prepared}
use Rattle.centres.specs.declared.Words.{Words}

-- an offset by sign and magnitude, of a component by these
abbrev pub offset_parts : Mode → Signed → ℕ → ℕ → Signed
offset_parts mode c radius q =
    record { negative = c.negative; magnitude = rounded_over mode c.negative (c.magnitude * radius) q }

-- the component along z, 2·step
abbrev pub up_of : ℕ → Signed
up_of step = record { negative = false; magnitude = 2 * step }

-- the three offsets at a point
unfoldable pub offsets_of : Mode → Prepared → ℕ → ℕ → Offsets
offsets_of mode p step radius =
    record {
      x = offset_parts mode (signed_of p.x) radius (squared_of p step);
      y = offset_parts mode (signed_of p.y) radius (squared_of p step);
      z = offset_parts mode (up_of step) radius (squared_of p step);
    }

-- an offset is at most the radius
pub record Short (o : Offsets) : Type 0 where
  pub x : o.x.magnitude ≤ radius_most
  pub y : o.y.magnitude ≤ radius_most
  pub z : o.z.magnitude ≤ radius_most

-- the twelve bytes of three words
unfoldable pub words_bytes : Words → List ℕ
words_bytes k = word_bytes k.x ++ word_bytes k.y ++ word_bytes k.z

-- the centre of a point before the lift
abbrev pub touching_at : Mode → Point → Centre
touching_at mode p = centre_of mode p.map.trailer.step p.map.trailer.radius (point_at p.map.bytes.now p.map.trailer.width p.column p.row)
