-- `maps::heights_hold` meets its contract: the answer so far is that of the heights passed. Assumes nothing.
use Rattle.std.proofs.Common.{◌≡◌}
use Rattle.cutter.specs.Call.{heights_within}
use Rattle.maps.proofs.heights_hold.Given as goal

abbrev pub invariant-loop-h : goal.invariant-loop-h
invariant-loop-h l = l.hold ≡ heights_within l.map l.h-index
