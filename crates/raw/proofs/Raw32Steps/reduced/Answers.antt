-- `Raw32` meets the contract of step 2. Assumes nothing.
use Rattle.raw.proofs.Answers.{index-factor}
use Rattle.raw.proofs.Raw32Steps.reduced.Goals as goal

pub reduce-requires : goal.reduce-requires
reduce-requires c = (c.requires.0, index-factor c.args.y c.args.r c.requires.1)
