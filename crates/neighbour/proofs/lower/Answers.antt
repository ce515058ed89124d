-- `neighbour::lower` meets its contract: the shifts lose nothing but the bits that have no place. Assumes nothing.
use Rattle.neighbour.proofs.Shifts.{raised-fits, pattern-fits, worked-out}
use Rattle.neighbour.proofs.lower.Goals as goal

pub overflow_mul-pattern : goal.overflow_mul-pattern
overflow_mul-pattern g c = let laws = g.met.F.Format.laws in search raised-fits

pub overflow_add-pattern : goal.overflow_add-pattern
overflow_add-pattern g c = let laws = g.met.F.Format.laws in search pattern-fits

pub returns : goal.returns
returns g c = search worked-out
