-- `rounding::normal::normal_answer` meets its contract: the pattern stays finite. Assumes nothing.
use Rattle.std.proofs.Common.{rules}
use Rattle.rounding.proofs.Short.{scale-fits, pattern-fits, pattern-finite, normal-answered}
use Rattle.rounding.proofs.normal.normal_answer.Goals as goal

pub overflow_mul-k : goal.overflow_mul-k
overflow_mul-k g c = let laws = g.met.F.Format.laws in search scale-fits

pub overflow_add-k : goal.overflow_add-k
overflow_add-k g c = let laws = g.met.F.Format.laws in search pattern-fits

pub with_sign-requires : goal.with_sign-requires
with_sign-requires g c = let laws = g.met.F.Format.laws in (search rules, search pattern-finite)

pub returns : goal.returns
returns g c = let laws = g.met.F.Format.laws in search normal-answered
