-- The differences of the heights round a point. Assumes nothing.
use Rattle.std.specs.Prelude.{ℤ}
use Rattle.cutter.specs.Map.{dx_at, dy_at}
use Rattle.maps.specs.declared.Point.{Point}

abbrev pub dx_of : Point → ℤ
dx_of p = dx_at p.map.bytes.now p.map.trailer.width p.column p.row

abbrev pub dy_of : Point → ℤ
dy_of p = dy_at p.map.bytes.now p.map.trailer.width p.column p.row
