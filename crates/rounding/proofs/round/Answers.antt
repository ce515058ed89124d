-- `rounding::round` meets its contract: each call gives one part of the answer. Assumes nothing.
use Rattle.rounding.proofs.Assembly.{assembled}
use Rattle.rounding.proofs.round.Goals as goal

pub returns : goal.returns
returns g c = search assembled
