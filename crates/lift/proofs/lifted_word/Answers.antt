-- `lift::lifted_word` meets its contract: the words are those of the offsets from the point, and of z with its bias. Assumes nothing.
use Rattle.std.proofs.Common.{◌∙◌}
use Rattle.lift.proofs.Records.{biased-small, word-lifted}
use Rattle.lift.proofs.lifted_word.Goals as goal

pub returns : goal.returns
returns c =
    word-lifted _ _ _ _ _ _ c.requires _ _ _ _ _ _ _ _ c.ranges.z.fits (c.from.ensures ∙ c.biased.ensures) c.away-along.ensures.0 c.away-down.ensures.0 c.lift-raised.ensures.0 c.unbiased.ensures

pub lift-raised-requires-clause-biased : goal.lift-raised-requires-clause-biased
lift-raised-requires-clause-biased c = biased-small _ _ _ _ _ _ c.requires _ c.ranges.z.fits (c.from.ensures ∙ c.biased.ensures)
