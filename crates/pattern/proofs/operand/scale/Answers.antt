-- `pattern::operand::scale` meets its contract: the highest bit of a subnormal operand is brought up, and a normal one has its leading one. Assumes nothing.
use Rattle.pattern.proofs.Magnitudes.{exponent-few, subnormal-scaled}
use Rattle.pattern.proofs.operand.scale.Goals as goal

pub overflow_sub-result : goal.overflow_sub-result
overflow_sub-result g c = let laws = g.met.F.Format.laws in search exponent-few

pub returns-then-x-eq0 : goal.returns-then-x-eq0
returns-then-x-eq0 g c = let laws = g.met.F.Format.laws in search subnormal-scaled
