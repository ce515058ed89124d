-- `pattern::operand::scale_normal` meets its contract: a normal operand has its leading one. Assumes nothing.
use Rattle.pattern.proofs.Magnitudes.{exponent-fits, normal-scaled, normal-exponent}
use Rattle.pattern.proofs.operand.scale_normal.Goals as goal

pub overflow_add-result-2 : goal.overflow_add-result-2
overflow_add-result-2 g c = let laws = g.met.F.Format.laws in search exponent-fits

pub returns : goal.returns
returns g c = let laws = g.met.F.Format.laws in (search normal-scaled, search normal-exponent)
