-- `words::i32_of` meets its contract: std's number is the word's. Assumes nothing.
use Rattle.words.proofs.Bits.{cast-kept}
use Rattle.words.proofs.i32_of.Goals as goal

pub returns : goal.returns
returns c = cast-kept _ _ c.ranges.word.fits c.cast_signed.ensures
