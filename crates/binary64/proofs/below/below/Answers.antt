-- `binary64::below::below` meets its contract: the raw answer is near, and the floor that it leads to gives the neighbour. Assumes nothing.
use Rattle.std.proofs.Common.{rules}
use Rattle.std.proofs.lemmas.Result.{err_from_is_err_and}
use Rattle.ieee.specs.Format.{binary64}
use Rattle.pattern.specs.Format.{laws64}
use Rattle.neighbour.proofs.Results.{floor-most, result-below}
use Rattle.binary64.proofs.Results.{operand-of, near_of, not_found, found}
use Rattle.binary64.proofs.below.below.Goals as goal

pub returns-in_err-g : goal.returns-in_err-g
returns-in_err-g c =
    let p = err_from_is_err_and c.from_residual.result c.from_residual.ensures.1 in
    rw p.1 (not_found _ _ _ c.scale-s.ensures _ c.scales_of-k.ensures _ p.0 (rw p.2 c.in_err-g.ensures))

pub floor_of-q-requires : goal.floor_of-q-requires
floor_of-q-requires c = (search operand-of, near_of _ _ _ c.scale-s.ensures _ c.scales_of-k.ensures _ _ c.in_ok-g.ensures)

pub lower-requires : goal.lower-requires
lower-requires c = (search (floor-most binary64 52 63 laws64), search rules)

pub returns : goal.returns
returns c =
    found _ _ _ c.scale-s.ensures _ c.scales_of-k.ensures _ _ c.in_ok-g.ensures _ (search (result-below binary64 52 63 laws64))
