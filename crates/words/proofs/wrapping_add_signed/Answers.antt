-- `words::wrapping_add_signed` meets its contract: a law for each sign. Assumes nothing.
use Rattle.words.proofs.Differences.{wrapped-less, wrapped-more}
use Rattle.words.proofs.wrapping_add_signed.Goals as goal

pub returns-then-s : goal.returns-then-s
returns-then-s c = wrapped-less _ _ _ c.ranges.u.fits c.requires c.if-s.true

pub returns-else-s : goal.returns-else-s
returns-else-s c = wrapped-more _ _ _ c.ranges.u.fits c.requires c.if-s.false
