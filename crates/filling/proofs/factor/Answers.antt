-- `filling::factor` meets its contract. Assumes nothing.
use Rattle.std.proofs.Common.{refl, arith}
use Rattle.significand.specs.Width.{k64}
use Rattle.significand.specs.Steps.{factor_of}
use Rattle.significand.proofs.Reduction.{factor-least, factor-most}
use Rattle.filling.proofs.factor.Goals as goal

pub returns : goal.returns
unfolding factor_of
returns c = let i = c.args.i in
    (refl, factor-least k64 i (omega arith) c.requires.1, factor-most k64 i c.requires.0)
