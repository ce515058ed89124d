-- A point by its row and its place there. Assumes nothing.
use Rattle.std.proofs.Common.{◌≡◌, ℕ, ◌+◌}
use Rattle.kinds.specs.declared.Mode.{Mode}
use Rattle.cutter.specs.Centre.{Centre, centre_of, point_at}
use Rattle.cutter.specs.Lift.{lifted}
use Rattle.maps.specs.declared.Map.{Map}
use Rattle.maps.specs.declared.Point.{Point}
use Rattle.centres.specs.Words.{touching_at}
use Rattle.lift.specs.Record.{Reaches, lifted_at}

module _ (p : Point) (map : Map) (n row : ℕ) (e : (p.map ≡ map) × (p.column ≡ n + 1) × (p.row ≡ row + 1)) where
  pub touching-there : (mode : Mode) → touching_at mode p ≡ centre_of mode map.trailer.step map.trailer.radius (point_at map.bytes.now map.trailer.width (n + 1) (row + 1))
  touching-there mode = cc (e.0, e.1, e.2)

  pub reaches-here : (k : Centre) → Reaches map.trailer.step (n + 1) (row + 1) k → Reaches p.map.trailer.step p.column p.row k
  reaches-here k h = rw (e.0, e.1, e.2) h

  pub lifted-there : (k : Centre) → lifted_at p k ≡ lifted map.bytes.now map.trailer.width map.trailer.step map.trailer.radius (n + 1) (row + 1) k
  lifted-there k = cc (e.0, e.1, e.2)
