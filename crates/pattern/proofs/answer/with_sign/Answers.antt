-- `pattern::answer::with_sign` meets its contract: the sign's bit is free in the rest. Assumes nothing.
use Rattle.pattern.proofs.Assembly.{signed_is, signed_below}
use Rattle.pattern.proofs.answer.with_sign.Goals as goal

pub returns : goal.returns
returns g c = let laws = g.met.F.Format.laws in (search signed_is, search signed_below)
