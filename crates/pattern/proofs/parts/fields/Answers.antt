-- `pattern::parts::fields` meets its contract: a mask of ones is a remainder. Assumes nothing.
use Rattle.pattern.proofs.Assembly.{parts_are}
use Rattle.pattern.proofs.parts.fields.Goals as goal

pub returns : goal.returns
returns g c = let laws = g.met.F.Format.laws in search parts_are
